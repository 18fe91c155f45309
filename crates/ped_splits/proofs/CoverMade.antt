-- Two DO loops become one: where an execution of the two has come, in the run of the program in which they have one variable, the new program comes, too: its stores are those of an execution of the outermost DO, and the iterations round it are reached.
use Rattle.std.proofs.Common.{◌≡◌, ℕ, ◌+◌, List, [], ◌∷◌, ◌++◌, Bool, true, false, ◌||◌, Some, refl, sym, ap, ◌∙◌, subst, append_assoc, append-nil, arith}
use Rattle.std.proofs.lemmas.Bool.{and_parts}
use Rattle.std.proofs.lemmas.List.{length-append}
use Rattle.std.specs.Str.Lines.{lines}
use Rattle.ped_base.specs.Lists.{is_same_text, is_among}
use Rattle.ped_tree.proofs.NameLaws.Collected.{among_append, among_collected}
use Rattle.ped_tree.specs.Grammar.Fits.{decls_fit, stmts_fit, begins_with_statement, at_body}
use Rattle.ped_tree.specs.Names.Collecting.{with_names}
use Rattle.ped_tree.specs.NamesIn.{loop_variables, all_loop_variables}
use Rattle.ped_tree.specs.Nests.{Loop}
use Rattle.ped_tree.specs.Numbering.{statement_with, statements_count}
use Rattle.ped_tree.specs.Tree.{Head, StmtTrees, Do, no_stmts, more_stmts, ProgramTree}
use Rattle.ped_rules.specs.ped_affine.specs.Assigned.{assigned_in, assigned_in_all}
use Rattle.ped_rules.specs.ped_affine.specs.Ranges as ranges
use Rattle.ped_rules.specs.ped_flow.specs.PlainBounds.{nest_round, outermost_or}
use Rattle.ped_rules.specs.ped_symbols.proofs.RightUseLaws.Whole.{right_program}
use Rattle.ped_rules.specs.ped_symbols.specs.Kinds.{table_of}
use Rattle.ped_rules.specs.ped_symbols.specs.RightUses.RightPrograms.{IsRight}
use Rattle.ped_rules.specs.ped_graph.specs.Dependences.{assigned_by, setting_in}
use Rattle.ped_rules.specs.ped_steps.specs.Replacing.{followed, alone}
use Rattle.ped_rules.specs.ped_steps.specs.Runs.Gaps.{number_at}
use Rattle.ped_rules.specs.ped_steps.specs.Runs.Pasting.{AreTurnsOf, IsInExecution}
use Rattle.ped_rules.specs.ped_loop_runs.proofs.LoopLaws.ApartTurns.{turns_long}
use Rattle.ped_rules.specs.ped_loop_runs.proofs.PastingLaws.FilledIndices.{index_filled}
use Rattle.ped_rules.specs.ped_loop_runs.proofs.PastingLaws.NestsRound.{variables_behind}
use Rattle.ped_rules.specs.ped_loop_runs.proofs.LoopLaws.OneForOneStands.{run_alone}
use Rattle.ped_rules.specs.ped_loop_runs.proofs.PastingLaws.ToldPlaces.{no_turns, same_head}
use Rattle.ped_rules.specs.ped_loop_runs.specs.Executions.{AreEntered, IsExecuted}
use Rattle.ped_rules.specs.ped_laws.proofs.ActLaws.Stores.{after_append}
use Rattle.ped_rules.specs.ped_laws.proofs.ConflictLaws.MakingParts.{Parts, among_rest, among_right, stand_whole}
use Rattle.ped_rules.specs.ped_laws.proofs.ConflictLaws.Scoping.{variables_of}
use Rattle.ped_rules.specs.ped_laws.proofs.FlowRunLaws.Standing.{whole_stands}
use Rattle.ped_rules.specs.ped_laws.specs.Acts.Fitting.{store_after}
use Rattle.ped_rules.specs.ped_laws.specs.Conflicts.Reaching.{IsStoreIn, Reached}
use Rattle.ped_rules.specs.ped_laws.specs.Covering.Nested.{loop}
use Rattle.ped_rules.specs.ped_laws.specs.Covering.Within.{HoldsStorable}
use Rattle.ped_rules.specs.ped_eval.specs.Outcomes.{setting_of}
use Rattle.ped_rules.specs.ped_eval.specs.Runs.{Run, run, run_all}
use Rattle.ped_rules.specs.ped_eval.specs.Scopes.{Setting, Frame, Scope, turns_of}
use Rattle.ped_rules.specs.ped_store.specs.Acts.{Act}
use Rattle.ped_rules.specs.ped_store.specs.Stores.{Store, store_at_start}
use Rattle.ped_splits.proofs.CoverGaps.{gap_loops, gap_nest, IsInGap, in_gap, AreRoundBoth, IsRoundBoth, followed_assigned}
use Rattle.ped_splits.proofs.CoverReached.{reached_there}
use Rattle.ped_splits.proofs.CoverStores.{keeps_unassigned, holds_behind, holds_at_start}
use Rattle.ped_splits.proofs.CoverFacts.{MayFuse}
use Rattle.ped_splits.proofs.FuseFacts.{renamed, renamed_pair, renamed_next}
use Rattle.ped_splits.specs.Fusing.{Match}
use Rattle.ped_splits.specs.Neighbours.{Neighbour, fused, joined_head, renamed_body}

-- which names the statements have as variables of DO loops
pub followed_variables : (y : List ℕ) (xs ys : StmtTrees) → is_among y (all_loop_variables (followed xs ys)) ≡ (is_among y (all_loop_variables xs) || is_among y (all_loop_variables ys))
followed_variables y no_stmts ys = refl
followed_variables y (more_stmts s xs) ys =
    among_append y (loop_variables s) (all_loop_variables (followed xs ys))
    ∙ (ap (λ (b : Bool). is_among y (loop_variables s) || b) (followed_variables y xs ys)
    ∙ (or_assoc (is_among y (loop_variables s)) (is_among y (all_loop_variables xs)) (is_among y (all_loop_variables ys))
    ∙ ap (λ (b : Bool). b || is_among y (all_loop_variables ys)) (sym (among_append y (loop_variables s) (all_loop_variables xs)))))
  where
    or_assoc : (a b c : Bool) → (a || (b || c)) ≡ ((a || b) || c)
    or_assoc true b c = refl
    or_assoc false b c = refl

-- what an outermost DO assigns, each name once
collected_in : (v : ProgramTree) (k : ℕ) (h : Head) (b : StmtTrees) → statement_with k v ≡ Some (Do h b) → (y : List ℕ) → is_among y (setting_in v k).assigned ≡ is_among y (assigned_in (Do h b))
collected_in v k h b there y = ap (λ o. is_among y (with_names [] (assigned_by o))) there ∙ among_collected y [] (assigned_in (Do h b))

-- what a DO assigns, where its body assigns the same
do_alike : (y : List ℕ) (h : Head) (b other : StmtTrees) → is_among y (assigned_in_all b) ≡ is_among y (assigned_in_all other) → is_among y (assigned_in (Do h b)) ≡ is_among y (assigned_in (Do h other))
do_alike y h b other e =
    ap (λ (z : Bool). is_same_text y h.variable || z) (among_append y h.private (assigned_in_all b) ∙ ap (λ (z : Bool). is_among y h.private || z) e ∙ sym (among_append y h.private (assigned_in_all other)))

module _ (t0 : ProgramTree) (s : ℕ) (m : Match t0 s) (x : MayFuse t0 s m) (same : setting_of (fused m.neighbour) ≡ setting_of (renamed m.neighbour)) where
  abbrev n : Neighbour t0 s
  n = m.neighbour

  abbrev t : ProgramTree
  t = renamed m.neighbour

  abbrev u : ProgramTree
  u = fused m.neighbour

  abbrev p : Setting
  p = setting_of (renamed m.neighbour)

  abbrev pub head : Head
  head = joined_head m.neighbour.own m.neighbour.next

  abbrev pub second : StmtTrees
  second = renamed_body m.neighbour.own m.neighbour.next m.neighbour.next_body

  abbrev pub bodies : StmtTrees
  bodies = followed m.neighbour.own_body (followed m.neighbour.between second)

  abbrev old : StmtTrees
  old = renamed_pair m.neighbour

  abbrev new : StmtTrees
  new = alone (Do head bodies)

  abbrev pub nest : List Loop
  nest = gap_loops m.neighbour.gap 1

  -- both have the same variables of DO loops, and assign the same
  module _ (y : List ℕ) where
    abbrev its : Bool
    its = is_same_text y m.neighbour.own.variable

    abbrev in_first : Bool
    in_first = is_among y (all_loop_variables m.neighbour.own_body)

    abbrev in_between : Bool
    in_between = is_among y (all_loop_variables m.neighbour.between)

    abbrev in_second : Bool
    in_second = is_among y (all_loop_variables second)

    any_order : (a b c d : Bool) → (a || (b || (c || d))) ≡ (a || (b || (c || (a || d))))
    any_order true b c d = refl
    any_order false b c d = refl

    pub variables : is_among y (all_loop_variables new) ≡ is_among y (all_loop_variables old)
    variables =
        ap (λ (z : Bool). its || z)
        (ap (is_among y) (append-nil (all_loop_variables bodies)) ∙ followed_variables y n.own_body (followed n.between second) ∙ ap (λ (z : Bool). in_first || z) (followed_variables y n.between second))
        ∙ any_order its in_first in_between in_second
        ∙ sym (ap (λ (z : Bool). its || z) (among_append y (all_loop_variables n.own_body) (all_loop_variables (followed n.between (alone (renamed_next n))))
        ∙ ap (λ (z : Bool). in_first || z) (followed_variables y n.between (alone (renamed_next n)) ∙ ap (λ (zs : List (List ℕ)). in_between || (its || is_among y zs)) (append-nil (all_loop_variables second)))))

    abbrev private_there : Bool
    private_there = is_among y m.neighbour.own.private

    abbrev first_assigns : Bool
    first_assigns = is_among y (assigned_in_all m.neighbour.own_body)

    abbrev between_assigns : Bool
    between_assigns = is_among y (assigned_in_all m.neighbour.between)

    abbrev second_assigns : Bool
    second_assigns = is_among y (assigned_in_all second)

    other_order : (a q b c d : Bool) → (a || (q || (b || (c || d)))) ≡ (a || ((q || b) || (c || (a || d))))
    other_order true q b c d = refl
    other_order false true b c d = refl
    other_order false false b c d = refl

    pub assigned : is_among y (assigned_in_all new) ≡ is_among y (assigned_in_all old)
    assigned =
        ap (λ (z : Bool). its || z)
        (ap (is_among y) (append-nil (n.own.private ++ assigned_in_all bodies)) ∙ among_append y n.own.private (assigned_in_all bodies)
        ∙ ap (λ (z : Bool). private_there || z) (followed_assigned y n.own_body (followed n.between second) ∙ ap (λ (z : Bool). first_assigns || z) (followed_assigned y n.between second)))
        ∙ other_order its private_there first_assigns between_assigns second_assigns
        ∙ sym (ap (λ (z : Bool). its || z) (among_append y (n.own.private ++ assigned_in_all n.own_body) (assigned_in_all (followed n.between (alone (renamed_next n))))
        ∙ (λ i. among_append y n.own.private (assigned_in_all n.own_body) i || followed_assigned y n.between (alone (renamed_next n)) i)
        ∙ ap (λ (zs : List (List ℕ)). (private_there || first_assigns) || (between_assigns || (its || is_among y zs))) (append-nil (n.next.private ++ assigned_in_all second) ∙ ap (λ (zs : List (List ℕ)). zs ++ assigned_in_all second) x.next_unprivate)))

  -- all that the new program assigns
  abbrev pub whole : ranges.Setting
  whole = record { constants = (table_of (fused m.neighbour)).constants; loop_variables = with_names [] (all_loop_variables (fused m.neighbour).body); assigned = assigned_in_all (fused m.neighbour).body }

  whole_parts : Parts u whole [] [] (at_body u) 1 u.body
  whole_parts =
      let right : IsRight u = right_program u x.new_valid in
      let fits = and_parts (decls_fit 0 u.decls) (stmts_fit (at_body u) u.body) (and_parts _ (begins_with_statement u.body) x.new_valid.fits).0 in
      record {
        fit = fits.1;
        uses = right.statements;
        increments = right.steps;
        assigns = λ y h. h;
        loops = λ y h. among_collected y [] (all_loop_variables u.body) ∙ h;
        listed = λ r i. i;
        stand = stand_whole u;
        same = λ y. refl;
        round = refl;
      }

  pub here : IsInGap t u whole head bodies old variables assigned [] [] n.gap 1
  here = in_gap t u whole head bodies old variables assigned n.gap [] [] (at_body u) 1 whole_parts (whole_stands t)

  pub stands : statement_with s u ≡ Some (Do head bodies)
  stands =
      let place : number_at n.gap 1 + 0 ≡ s = (let e = n.numbered in omega (arith, e)) in
      ap (λ (k : ℕ). statement_with k u) (sym place) ∙ here.part.stand 0 (Do head bodies) refl

  pub old_nest : nest_round t s ≡ nest
  old_nest = gap_nest s old (omega arith) n.gap 1 n.numbered

  pub new_nest : nest_round u s ≡ nest
  new_nest = gap_nest s new (omega arith) n.gap 1 n.numbered

  in_new : (y : List ℕ) → is_among y (assigned_in (Do head bodies)) ≡ true → is_among y (assigned_in_all new) ≡ true
  in_new y h = ap (is_among y) (append-nil (assigned_in (Do head bodies))) ∙ h

  module _ (data_bytes : List ℕ) where
    abbrev start : Store
    start = store_at_start (lines data_bytes)

    storable : (k : ℕ) (front behind : List Act) → (run_all p t.body 1 [] start).acts ≡ front ++ behind → HoldsStorable (setting_in u k).loop_variables (store_after front start)
    storable k front behind is =
        holds_behind p t.body 1 [] start front behind is (setting_in u k).loop_variables
        (λ y h. among_collected y [] (all_loop_variables u.body) ∙ index_filled y old new (variables y) n.gap ∙ h)
        (holds_at_start (setting_in u k).loop_variables (lines data_bytes))

    regrouped : (a b c d : List Act) → a ++ ((b ++ c) ++ d) ≡ (a ++ b) ++ (c ++ d)
    regrouped a b c d = ap (λ (zs : List Act). a ++ zs) (append_assoc b c d) ∙ sym (append_assoc a b (c ++ d))

    -- an execution of the two has come to iterations of the new program, in an execution of the outermost DO there
    pub record HasCome (scope : Scope) (w : Store) : Type 0 where
      pub outer : Loop
      pub inner : List Loop
      pub is : nest ++ loop s head ∷ [] ≡ outer ∷ inner
      pub first : Store
      pub stored : (before after : List Act) → (run_all p old s scope w).acts ≡ before ++ after → IsStoreIn (setting_in u outer.number) first (store_after before w)
      pub assigns : (y : List ℕ) → is_among y (assigned_in (Do head bodies)) ≡ true → is_among y (setting_in u outer.number).assigned ≡ true
      pub reached : Reached u (setting_in u outer.number) first nest scope
      pub tells : variables_of scope ≡ variables_behind [] nest
      pub turns : AreTurnsOf (λ k. k) nest (turns_of scope)

    collected : (k : ℕ) (h : Head) (b : StmtTrees) → statement_with k u ≡ Some (Do h b) → (y : List ℕ) → is_among y (setting_in u k).assigned ≡ is_among y (assigned_in (Do h b))
    collected k h b there y = collected_in u k h b there y

    -- in an execution of the outermost DO round them
    module _ (f : Frame) (fs : Scope) (w : Store) (turns_there : AreTurnsOf (λ k. k) nest (turns_of (f ∷ fs))) (k : Loop) (ls : List Loop) (is : nest ≡ k ∷ ls) (o : IsInExecution p t start s (run_all p old s (f ∷ fs) w).acts w)
        (entered : AreEntered p t (run p (Do o.loop.head o.loop.body) (outermost_or s (nest_round t s)) [] o.first).acts o.first (f ∷ fs)) where
      r : IsRoundBoth t u new [] k
      r = (subst (AreRoundBoth t u new []) is here.loops).0

      number : outermost_or s (nest_round t s) ≡ k.number
      number = ap (outermost_or s) (old_nest ∙ is)

      both : Some (Do k.head r.old_body) ≡ Some (Do o.loop.head o.loop.body)
      both = sym r.stood ∙ ap (λ (j : ℕ). statement_with j t) (sym number) ∙ o.loop.is

      heads : k.head ≡ o.loop.head
      heads = same_head k.head o.loop.head r.old_body o.loop.body both

      insides : r.old_body ≡ o.loop.body
      insides = let e = both in cc

      in_body : (y : List ℕ) → is_among y (assigned_in_all r.body) ≡ true → is_among y (assigned_in (Do k.head r.body)) ≡ true
      in_body y h = among_rest y k.head.variable (k.head.private ++ assigned_in_all r.body) (among_right y k.head.private (assigned_in_all r.body) h)

      unassigned : (y : List ℕ) → is_among y (setting_in u k.number).assigned ≡ false → is_among y (assigned_in_all (alone (Do o.loop.head o.loop.body))) ≡ false
      unassigned y free =
          ap (is_among y) (append-nil (assigned_in (Do o.loop.head o.loop.body)))
          ∙ (λ i. is_among y (assigned_in (Do (sym heads i) (sym insides i))))
          ∙ do_alike y k.head r.old_body r.body (sym (r.assigned y))
          ∙ sym (collected k.number k.head r.body r.stands y)
          ∙ free

      abbrev outside : List Act
      outside = (run p (Do o.loop.head o.loop.body) (outermost_or s (nest_round t s)) [] o.first).acts

      stored_in : (before after : List Act) → outside ≡ before ++ after → IsStoreIn (setting_in u k.number) o.first (store_after before o.first)
      stored_in before after e = record {
        storable = subst (HoldsStorable (setting_in u k.number).loop_variables) (after_append o.execution.front before start ∙ ap (store_after before) (sym o.execution.from))
            (storable k.number (o.execution.front ++ before) (after ++ o.execution.behind) (o.execution.is ∙ ap (λ (zs : List Act). o.execution.front ++ (zs ++ o.execution.behind)) e ∙ regrouped o.execution.front before after o.execution.behind));
        constant = λ y free.
            keeps_unassigned p (alone (Do o.loop.head o.loop.body)) (outermost_or s (nest_round t s)) [] o.first before after
            (ap (λ (z : Run). z.acts) (run_alone p (Do o.loop.head o.loop.body) (outermost_or s (nest_round t s)) [] o.first) ∙ e) y (unassigned y free);
      }

      there : Reached u (setting_in u k.number) o.first nest (f ∷ fs) × (variables_of (f ∷ fs) ≡ variables_behind [] nest)
      there = reached_there t u same new (setting_in u k.number) outside o.first stored_in (f ∷ fs) nest entered turns_there here.loops

      come_inside : HasCome (f ∷ fs) w
      come_inside = record {
        outer = k;
        inner = ls ++ loop s head ∷ [];
        is = ap (λ (zs : List Loop). zs ++ loop s head ∷ []) is;
        first = o.first;
        stored = λ before after e.
            subst (IsStoreIn (setting_in u k.number) o.first) (after_append o.part.front before o.first ∙ ap (store_after before) (sym o.part.from))
            (stored_in (o.part.front ++ before) (after ++ o.part.behind) (o.part.is ∙ ap (λ (zs : List Act). o.part.front ++ (zs ++ o.part.behind)) e ∙ regrouped o.part.front before after o.part.behind));
        assigns = λ y h. collected k.number k.head r.body r.stands y ∙ in_body y (r.inside y (in_new y h));
        reached = there.0;
        tells = there.1;
        turns = turns_there;
      }

    pub has_come : (scope : Scope) (front behind : List Act) (w : Store) → IsExecuted p t start s (statements_count old) scope front (run_all p old s scope w).acts behind w → HasCome scope w
    has_come [] front behind w executed =
        let none : nest ≡ [] = sym old_nest ∙ no_turns p.number (nest_round t s) executed.place.turns in
        record {
          outer = loop s head;
          inner = [];
          is = ap (λ (ls : List Loop). ls ++ loop s head ∷ []) none;
          first = w;
          stored = λ before after is. record {
            storable = subst (HoldsStorable (setting_in u s).loop_variables) (after_append front before start ∙ ap (store_after before) (sym executed.from))
                (storable s (front ++ before) (after ++ behind) (executed.whole ∙ ap (λ (zs : List Act). front ++ (zs ++ behind)) is ∙ regrouped front before after behind));
            constant = λ y free. keeps_unassigned p old s [] w before after is y (sym (assigned y) ∙ ap (is_among y) (append-nil (assigned_in (Do head bodies))) ∙ sym (collected s head bodies stands y) ∙ free);
          };
          assigns = λ y h. collected s head bodies stands y ∙ h;
          reached = none;
          tells = sym (ap (variables_behind []) none);
          turns = subst (λ (ls : List Loop). AreTurnsOf (λ k. k) ls []) old_nest executed.place.turns;
        }
    has_come (f ∷ fs) front behind w executed = by nest refl
      where
        turns_there : AreTurnsOf (λ k. k) nest (turns_of (f ∷ fs))
        turns_there = subst (λ (ls : List Loop). AreTurnsOf (λ k. k) ls (turns_of (f ∷ fs))) old_nest executed.place.turns

        by : (ls : List Loop) → nest ≡ ls → HasCome (f ∷ fs) w
        by [] none =
            let long = turns_long (λ k. k) [] (turns_of (f ∷ fs)) (subst (λ (ls : List Loop). AreTurnsOf (λ k. k) ls (turns_of (f ∷ fs))) none turns_there) in
            let more = length-append (turns_of fs) (f.turn ∷ []) in
            absurd (omega (arith, long, more))
        by (k ∷ ls) is = come_inside f fs w turns_there k ls is executed.outer executed.entered
