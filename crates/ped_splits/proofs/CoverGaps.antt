-- Statements in a gap: the DO loops round them, in the program before and behind a step, and what is known of a DO that stands there.
use Rattle.std.proofs.Common.{◌≡◌, ℕ, ◌+◌, ◌<◌, pos, List, [], ◌∷◌, ◌++◌, Bool, true, false, ◌||◌, Some, refl, sym, ap, subst, ◌∙◌, append_assoc, append-nil, arith}
use Rattle.std.specs.List.{list_all}
use Rattle.std.proofs.lemmas.Bool.{and_parts, or_left, or_right}
use Rattle.ped_base.specs.Lists.{is_same_text, is_among}
use Rattle.ped_tree.proofs.NameLaws.Collected.{among_append}
use Rattle.ped_tree.specs.Tree.{Head, StmtTree, StmtTrees, If, Do, no_stmts, more_stmts, ProgramTree}
use Rattle.ped_tree.specs.Nests.{Loop}
use Rattle.ped_tree.specs.NamesIn.{all_loop_variables}
use Rattle.ped_tree.specs.Numbering.{all_numbered, numbered, statement_with, statement_count, statements_count}
use Rattle.ped_tree.specs.Grammar.Fits.{Surroundings, moved, in_if, in_loop, loop_fits, stmts_fit}
use Rattle.ped_tree.specs.Grammar.Words.{is_name}
use Rattle.ped_rules.specs.ped_affine.specs.Assigned.{assigned_in, assigned_in_all}
use Rattle.ped_rules.specs.ped_affine.specs.Ranges as ranges
use Rattle.ped_rules.specs.ped_flow.specs.PlainBounds.{loops_round, all_loops_round}
use Rattle.ped_rules.specs.ped_symbols.specs.Kinds.{kind_in, at_last}
use Rattle.ped_rules.specs.ped_symbols.specs.RightUses.RightUses.{is_scalar, stmts_are_right}
use Rattle.ped_rules.specs.ped_symbols.specs.RightUses.RightLoops.{step_is_right, steps_are_right}
use Rattle.ped_rules.specs.ped_steps.specs.Replacing.{followed, alone}
use Rattle.ped_rules.specs.ped_steps.specs.Runs.Gaps.{Gap, at_front, past, in_then, in_else, in_body, filled, number_at}
use Rattle.ped_rules.specs.ped_steps.proofs.RunLaws.FilledGaps.{number_from, number_room}
use Rattle.ped_rules.specs.ped_steps.proofs.RunLaws.LoopsRound.{none_before, all_none_before, all_none_from, one_more}
use Rattle.ped_rules.specs.ped_loop_runs.proofs.LoopLaws.NextIn.{first_alone, second_alone}
use Rattle.ped_rules.specs.ped_loop_runs.proofs.PastingLaws.FilledIndices.{index_filled}
use Rattle.ped_rules.specs.ped_loop_runs.proofs.PastingLaws.NestsRound.{variables_behind}
use Rattle.ped_rules.specs.ped_laws.specs.Covering.Nested.{loop}
use Rattle.ped_rules.specs.ped_laws.proofs.ConflictLaws.MakingParts.{Part, Parts, first_part, rest_parts, then_parts, else_parts, body_parts}
use Rattle.ped_rules.specs.ped_laws.proofs.ConflictLaws.MakingSteps.{head_fits, head_uses}
use Rattle.ped_rules.specs.ped_laws.proofs.ConflictLaws.Scoping.{variables_of}
use Rattle.ped_rules.specs.ped_laws.proofs.FlowRunLaws.Standing.{Stand, first_stands, rest_stands, inner_stands, else_stands, is_there}
use Rattle.ped_rules.specs.ped_eval.specs.Scopes.{Frame, Scope}
use Rattle.ped_rules.specs.ped_eval.specs.Outcomes.{setting_of}

-- the DO loops round a gap, the outermost first, where the first statement has number n
abbrev pub gap_loops : Gap → ℕ → List Loop
gap_loops (at_front rest) n = []
gap_loops (past x gap) n = gap_loops gap (n + statement_count x)
gap_loops (in_then c gap b rest) n = gap_loops gap (n + 1)
gap_loops (in_else c a gap rest) n = gap_loops gap (n + 1 + statements_count a)
gap_loops (in_body d gap rest) n = record { number = n; head = d } ∷ gap_loops gap (n + 1)

-- they are those round the first of the statements in it
module _ (l : ℕ) (ts : StmtTrees) (some : 0 < statements_count ts) where
  pub gap_nest : (gap : Gap) (n : ℕ) → number_at gap n ≡ l → all_loops_round l (filled gap ts) n ≡ gap_loops gap n
  gap_nest (at_front rest) n e = all_none_from l (followed ts rest) n (omega (arith, e))
  gap_nest (past x gap) n e =
      let from = number_from gap (n + statement_count x) in
      let here : loops_round l x n ≡ [] = none_before l x n (omega (arith, from, e)) in
      (λ i. here i ++ all_loops_round l (filled gap ts) (n + statement_count x)) ∙ gap_nest gap (n + statement_count x) e
  gap_nest (in_then c gap other rest) n e =
      let a = filled gap ts in
      let room = number_room gap ts (n + 1) in
      first_alone (all_loops_round l a (n + 1)) (all_loops_round l other (n + 1 + statements_count a)) (all_loops_round l rest (n + statement_count (If c a other)))
      (all_none_from l other (n + 1 + statements_count a) (omega (arith, room, e))) (all_none_from l rest (n + statement_count (If c a other)) (omega (arith, room, e)))
      ∙ gap_nest gap (n + 1) e
  gap_nest (in_else c other gap rest) n e =
      let a = filled gap ts in
      let from = number_from gap (n + 1 + statements_count other) in
      let room = number_room gap ts (n + 1 + statements_count other) in
      second_alone (all_loops_round l other (n + 1)) (all_loops_round l a (n + 1 + statements_count other)) (all_loops_round l rest (n + statement_count (If c other a)))
      (all_none_before l other (n + 1) (omega (arith, from, e))) (all_none_from l rest (n + statement_count (If c other a)) (omega (arith, room, e)))
      ∙ gap_nest gap (n + 1 + statements_count other) e
  gap_nest (in_body g gap rest) n e =
      let a = filled gap ts in
      let from = number_from gap (n + 1) in
      let room = number_room gap ts (n + 1) in
      let here = one_more l g a n (omega (arith, from, e)) (omega (arith, room, e, some)) in
      let behind = all_none_from l rest (n + statement_count (Do g a)) (omega (arith, room, e)) in
      (λ i. here i ++ behind i) ∙ append-nil (loop n g ∷ all_loops_round l a (n + 1)) ∙ ap (λ (ls : List Loop). loop n g ∷ ls) (gap_nest gap (n + 1) e)

-- what statements with a gap assign
module _ (y : List ℕ) where
  or_assoc : (a b c : Bool) → (a || (b || c)) ≡ ((a || b) || c)
  or_assoc true b c = refl
  or_assoc false b c = refl

  left_in : (xs ys : List (List ℕ)) → is_among y xs ≡ true → is_among y (xs ++ ys) ≡ true
  left_in xs ys h = among_append y xs ys ∙ or_left (is_among y xs) (is_among y ys) h

  right_in : (xs ys : List (List ℕ)) → is_among y ys ≡ true → is_among y (xs ++ ys) ≡ true
  right_in xs ys h = among_append y xs ys ∙ or_right (is_among y xs) (is_among y ys) h

  both : (xs ys us vs : List (List ℕ)) → is_among y xs ≡ is_among y us → is_among y ys ≡ is_among y vs → is_among y (xs ++ ys) ≡ is_among y (us ++ vs)
  both xs ys us vs e f = among_append y xs ys ∙ ((λ i. e i || f i) ∙ sym (among_append y us vs))

  pub followed_assigned : (xs ys : StmtTrees) → is_among y (assigned_in_all (followed xs ys)) ≡ (is_among y (assigned_in_all xs) || is_among y (assigned_in_all ys))
  followed_assigned no_stmts ys = refl
  followed_assigned (more_stmts s xs) ys =
      among_append y (assigned_in s) (assigned_in_all (followed xs ys))
      ∙ (ap (λ (b : Bool). is_among y (assigned_in s) || b) (followed_assigned xs ys)
      ∙ (or_assoc (is_among y (assigned_in s)) (is_among y (assigned_in_all xs)) (is_among y (assigned_in_all ys))
      ∙ ap (λ (b : Bool). b || is_among y (assigned_in_all ys)) (sym (among_append y (assigned_in s) (assigned_in_all xs)))))

  module _ (old new : StmtTrees) (same : is_among y (assigned_in_all new) ≡ is_among y (assigned_in_all old)) where
    pub assigned_filled : (gap : Gap) → is_among y (assigned_in_all (filled gap new)) ≡ is_among y (assigned_in_all (filled gap old))
    assigned_filled (at_front rest) = followed_assigned new rest ∙ (ap (λ (b : Bool). b || is_among y (assigned_in_all rest)) same ∙ sym (followed_assigned old rest))
    assigned_filled (past s gap) = both (assigned_in s) (assigned_in_all (filled gap new)) (assigned_in s) (assigned_in_all (filled gap old)) refl (assigned_filled gap)
    assigned_filled (in_then c gap b rest) =
        both (assigned_in (If c (filled gap new) b)) (assigned_in_all rest) (assigned_in (If c (filled gap old) b)) (assigned_in_all rest)
        (both (assigned_in_all (filled gap new)) (assigned_in_all b) (assigned_in_all (filled gap old)) (assigned_in_all b) (assigned_filled gap) refl) refl
    assigned_filled (in_else c a gap rest) =
        both (assigned_in (If c a (filled gap new))) (assigned_in_all rest) (assigned_in (If c a (filled gap old))) (assigned_in_all rest)
        (both (assigned_in_all a) (assigned_in_all (filled gap new)) (assigned_in_all a) (assigned_in_all (filled gap old)) refl (assigned_filled gap)) refl
    assigned_filled (in_body h gap rest) =
        both (assigned_in (Do h (filled gap new))) (assigned_in_all rest) (assigned_in (Do h (filled gap old))) (assigned_in_all rest)
        (ap (λ (b : Bool). is_same_text y h.variable || b) (both h.private (assigned_in_all (filled gap new)) h.private (assigned_in_all (filled gap old)) refl (assigned_filled gap))) refl

  -- statements in a gap assign no more than all of them
  module _ (ts : StmtTrees) (there : is_among y (assigned_in_all ts) ≡ true) where
    pub assigned_inside : (gap : Gap) → is_among y (assigned_in_all (filled gap ts)) ≡ true
    assigned_inside (at_front rest) = followed_assigned ts rest ∙ or_left (is_among y (assigned_in_all ts)) (is_among y (assigned_in_all rest)) there
    assigned_inside (past s gap) = right_in (assigned_in s) (assigned_in_all (filled gap ts)) (assigned_inside gap)
    assigned_inside (in_then c gap b rest) = left_in (assigned_in (If c (filled gap ts) b)) (assigned_in_all rest) (left_in (assigned_in_all (filled gap ts)) (assigned_in_all b) (assigned_inside gap))
    assigned_inside (in_else c a gap rest) = left_in (assigned_in (If c a (filled gap ts))) (assigned_in_all rest) (right_in (assigned_in_all a) (assigned_in_all (filled gap ts)) (assigned_inside gap))
    assigned_inside (in_body h gap rest) =
        left_in (assigned_in (Do h (filled gap ts))) (assigned_in_all rest)
        (or_right (is_same_text y h.variable) (is_among y (h.private ++ assigned_in_all (filled gap ts))) (right_in h.private (assigned_in_all (filled gap ts)) (assigned_inside gap)))

pub followed_numbered : (ts us : StmtTrees) → all_numbered (followed ts us) ≡ all_numbered ts ++ all_numbered us
followed_numbered no_stmts us = refl
followed_numbered (more_stmts t rest) us = ap (λ (z : List StmtTree). numbered t ++ z) (followed_numbered rest us) ∙ sym (append_assoc (numbered t) (all_numbered rest) (all_numbered us))

-- a DO of both programs, round statements that are exchanged for one DO: its head is that of both, and its variable is none of these
pub record IsRoundBoth (t u : ProgramTree) (new : StmtTrees) (round : List (List ℕ)) (k : Loop) : Type 0 where
  pub body : StmtTrees
  pub old_body : StmtTrees
  pub stands : statement_with k.number u ≡ Some (Do k.head body)
  pub stood : statement_with k.number t ≡ Some (Do k.head old_body)
  pub step : step_is_right (setting_of u).constants k.head.step ≡ true
  pub private : list_all (is_scalar (kind_in u)) k.head.private ≡ true
  pub named : list_all is_name k.head.private ≡ true
  pub other : is_among k.head.variable round ≡ false
  pub variables : (y : List ℕ) → is_among y (all_loop_variables body) ≡ is_among y (all_loop_variables old_body)
  pub assigned : (y : List ℕ) → is_among y (assigned_in_all body) ≡ is_among y (assigned_in_all old_body)
  pub inside : (y : List ℕ) → is_among y (assigned_in_all new) ≡ true → is_among y (assigned_in_all body) ≡ true

-- so it is of each of these loops, where these are the variables of those round it
abbrev pub AreRoundBoth : ProgramTree → ProgramTree → StmtTrees → List (List ℕ) → List Loop → Type 0
AreRoundBoth t u new round [] = Unit {0}
AreRoundBoth t u new round (k ∷ ks) = IsRoundBoth t u new round k × AreRoundBoth t u new (k.head.variable ∷ round) ks

pub last_round : (t u : ProgramTree) (new : StmtTrees) (round : List (List ℕ)) (front : List Loop) (k : Loop) → AreRoundBoth t u new round (front ++ k ∷ []) → AreRoundBoth t u new round front × IsRoundBoth t u new (variables_behind round front) k
last_round t u new round [] k h = (tt, h.0)
last_round t u new round (m ∷ front) k h = let rest = last_round t u new (m.head.variable ∷ round) front k h.1 in ((h.0, rest.0), rest.1)

module _ (t u : ProgramTree) (w : ranges.Setting) (h : Head) (b old : StmtTrees) (variables : (y : List ℕ) → is_among y (all_loop_variables (alone (Do h b))) ≡ is_among y (all_loop_variables old)) (assigned : (y : List ℕ) → is_among y (assigned_in_all (alone (Do h b))) ≡ is_among y (assigned_in_all old)) where
  abbrev new : StmtTrees
  new = alone (Do h b)

  -- what is known of the DO in the gap, and of the loops round it
  pub record IsInGap (nest : List Loop) (round : List (List ℕ)) (gap : Gap) (n : ℕ) : Type 0 where
    pub loops : AreRoundBoth t u (alone (Do h b)) round (gap_loops gap n)
    pub around : Surroundings
    pub scope : Scope
    pub tells : variables_of scope ≡ variables_behind round (gap_loops gap n)
    pub part : Part u w (nest ++ gap_loops gap n) scope around (number_at gap n) (Do h b)
    pub stood : Stand t (number_at gap n) (all_numbered old)

  pub in_gap : (gap : Gap) (nest : List Loop) (scope : Scope) (around : Surroundings) (n : ℕ) → Parts u w nest scope around n (filled gap (alone (Do h b))) → Stand t n (all_numbered (filled gap old)) → IsInGap nest (variables_of scope) gap n
  in_gap (at_front rest) nest scope around n p stood = record {
    loops = tt;
    around = around;
    scope = scope;
    tells = refl;
    part = subst (λ (ls : List Loop). Part u w ls scope around n (Do h b)) (sym (append-nil nest)) (first_part u w nest scope around n (Do h b) rest p);
    stood = first_stands t n (all_numbered old) (all_numbered rest) (subst (Stand t n) (followed_numbered old rest) stood);
  }
  in_gap (past x gap) nest scope around n p stood =
      let r = in_gap gap nest scope (moved around (statement_count x)) (n + statement_count x) (rest_parts u w nest scope around n x (filled gap new) p) (rest_stands t x (filled gap old) n stood) in
      record { loops = r.loops; around = r.around; scope = r.scope; tells = r.tells; part = r.part; stood = r.stood }
  in_gap (in_then c gap other rest) nest scope around n p stood =
      let a = filled gap new in
      let was = filled gap old in
      let r = in_gap gap nest scope (in_if around 1) (n + 1) (then_parts u w nest scope around n c a other (first_part u w nest scope around n (If c a other) rest p))
      (first_stands t (n + 1) (all_numbered was) (all_numbered other) (inner_stands t (If c was other) (all_numbered was ++ all_numbered other) n (first_stands t n (numbered (If c was other)) (all_numbered rest) stood))) in
      record { loops = r.loops; around = r.around; scope = r.scope; tells = r.tells; part = r.part; stood = r.stood }
  in_gap (in_else c other gap rest) nest scope around n p stood =
      let a = filled gap new in
      let was = filled gap old in
      let r = in_gap gap nest scope (in_if around (1 + statements_count other)) (n + 1 + statements_count other) (else_parts u w nest scope around n c other a (first_part u w nest scope around n (If c other a) rest p))
      (else_stands t other was (n + 1) (inner_stands t (If c other was) (all_numbered other ++ all_numbered was) n (first_stands t n (numbered (If c other was)) (all_numbered rest) stood))) in
      record { loops = r.loops; around = r.around; scope = r.scope; tells = r.tells; part = r.part; stood = r.stood }
  in_gap (in_body d gap rest) nest scope around n p stood =
      let a = filled gap new in
      let was = filled gap old in
      let f : Frame = record { turn = record { statement = 0; parallel = false; number = 0; value = pos 0 }; variable = d.variable; private = [] } in
      let one : Part u w nest scope around n (Do d a) = first_part u w nest scope around n (Do d a) rest p in
      let it : Stand t n (numbered (Do d was)) = first_stands t n (numbered (Do d was)) (all_numbered rest) stood in
      let r = in_gap gap (nest ++ (record { number = n; head = d }) ∷ []) (f ∷ scope) (in_loop around d) (n + 1) (body_parts u w nest scope around n d a f refl one) (inner_stands t (Do d was) (all_numbered was) n it) in
      let fits = head_fits around d a (and_parts (loop_fits around d a) (stmts_fit (in_loop around d) a) one.fit).0 in
      let uses = head_uses u d (and_parts _ (stmts_are_right (kind_in u) a) one.uses).0 in
      let place : n + 0 ≡ n = omega arith in
      record {
        loops = (
          record {
            body = a;
            old_body = was;
            stands = ap (λ (i : ℕ). statement_with i u) (sym place) ∙ one.stand 0 (Do d a) refl;
            stood = is_there t (Do d was) (all_numbered was) n it;
            step = (and_parts (step_is_right (at_last u).values d.step) (steps_are_right (at_last u).values a) one.increments).0;
            private = uses.private;
            named = fits.named;
            other = ap (is_among d.variable) (sym one.round) ∙ fits.other;
            variables = λ y. index_filled y old new (variables y) gap;
            assigned = λ y. assigned_filled y old new (assigned y) gap;
            inside = λ y k. assigned_inside y new k gap;
          },
          r.loops,
        );
        around = r.around;
        scope = r.scope;
        tells = r.tells;
        part = subst (λ (ls : List Loop). Part u w ls r.scope r.around (number_at gap (n + 1)) (Do h b)) (append_assoc nest ((record { number = n; head = d }) ∷ []) (gap_loops gap (n + 1))) r.part;
        stood = r.stood;
      }
