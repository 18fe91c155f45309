-- The DO loops round a statement stand in the program, and all of them in the outermost one. In a valid program their increments are right, and none has the variable of one round it.
use Rattle.std.proofs.Common.{◌≡◌, ℕ, ◌+◌, List, [], ◌∷◌, ◌++◌, Bool, true, false, ◌&&◌, ◌⊎◌, inl, inr, Some, refl, sym, subst, arith, nat_le, if◌then◌else◌}
use Rattle.std.specs.Prelude.{nat_lt}
use Rattle.std.proofs.lemmas.Bool.{cases_lt, and_parts}
use Rattle.std.proofs.lemmas.List.{append-nil}
use Rattle.ped_bodies.specs.ped_flow.specs.ped_base.specs.Lists.{is_among}
use Rattle.ped_bodies.specs.ped_flow.specs.ped_tree.specs.Tree.{Head, StmtTree, StmtTrees, Assign, If, Do, Print, Read, Stop, Comment, no_stmts, more_stmts, ProgramTree}
use Rattle.ped_bodies.specs.ped_flow.specs.ped_tree.specs.Nests.{Loop}
use Rattle.ped_bodies.specs.ped_flow.specs.ped_tree.specs.Numbering.{numbered, all_numbered, statement_with, statement_count, statements_count}
use Rattle.ped_bodies.specs.ped_flow.specs.ped_tree.specs.Grammar.Fits.{Surroundings, moved, in_if, in_loop, loop_fits, stmt_fits, stmts_fit, decls_fit, begins_with_statement, at_body}
use Rattle.ped_bodies.specs.ped_symbols.specs.NameRefusals.{IsValid}
use Rattle.ped_bodies.specs.ped_symbols.specs.RightUses.RightLoops.{step_is_right, stmt_steps_are_right, steps_are_right}
use Rattle.ped_bodies.specs.ped_symbols.specs.RightUses.RightPrograms.{IsRight}
use Rattle.ped_bodies.specs.ped_flow.specs.PlainBounds.{loops_round, all_loops_round, nest_round}
use Rattle.ped_bodies.specs.ped_eval.specs.Outcomes.{setting_of}
use Rattle.ped_bodies.specs.ped_laws.specs.Acts.Orders.{IsIn}
use Rattle.ped_bodies.specs.ped_laws.specs.Covering.Nested.{loop}
use Rattle.ped_bodies.specs.ped_laws.specs.Plain.Executions.{IsOneOf}
use Rattle.ped_bodies.specs.ped_laws.proofs.ConflictLaws.MakingSteps.{head_fits}
use Rattle.ped_bodies.specs.ped_laws.proofs.FlowRunLaws.Standing.{Stand, whole_stands, first_stands, rest_stands, inner_stands, else_stands, is_there}
use Rattle.ped_bodies.specs.ped_steps.proofs.RunLaws.LoopsRound.{none_before, all_none_before, all_none_from}

-- a DO of the program, which is one of these statements
pub record IsLoopIn (t : ProgramTree) (xs : List StmtTree) (k : Loop) : Type 0 where
  pub body : StmtTrees
  pub stands : statement_with k.number t ≡ Some (Do k.head body)
  pub one : IsOneOf (Do k.head body) xs

one_left : (u : StmtTree) (xs ys : List StmtTree) → IsOneOf u xs → IsOneOf u (xs ++ ys)
one_left u [] ys h = absurd h
one_left u (x ∷ xs) ys h = elim h [ inl e ↦ inl e | inr k ↦ inr (one_left u xs ys k) ]

one_right : (u : StmtTree) (xs ys : List StmtTree) → IsOneOf u ys → IsOneOf u (xs ++ ys)
one_right u [] ys h = h
one_right u (x ∷ xs) ys h = inr (one_right u xs ys h)

first_of : (l m : Loop) (ls ms : List Loop) → l ∷ ls ≡ m ∷ ms → l ≡ m
first_of l m ls ms e = cc

-- loops in one another: each of them is one of these statements, and one of those of the outermost
pub record AreRound (t : ProgramTree) (xs : List StmtTree) (loops : List Loop) : Type 0 where
  pub each : (k : Loop) → IsIn k loops → IsLoopIn t xs k
  pub outermost : (o : Loop) (ks : List Loop) → loops ≡ o ∷ ks → (b : StmtTrees) × (statement_with o.number t ≡ Some (Do o.head b)) × ((k : Loop) → IsIn k loops → IsLoopIn t (numbered (Do o.head b)) k)

module _ (t : ProgramTree) where
  none_round : (xs : List StmtTree) → AreRound t xs []
  none_round xs = record { each = λ k i. absurd i; outermost = λ o ks e. absurd cc }

  wider : (xs ys : List StmtTree) (loops : List Loop) → ((u : StmtTree) → IsOneOf u xs → IsOneOf u ys) → AreRound t xs loops → AreRound t ys loops
  wider xs ys loops f h = record { each = λ k i. (let x = h.each k i in record { body = x.body; stands = x.stands; one = f (Do k.head x.body) x.one }); outermost = h.outermost }

  -- one of two lists is empty
  either_round : (xs ys : List Loop) (list : List StmtTree) → (xs ≡ []) ⊎ (ys ≡ []) → AreRound t list xs → AreRound t list ys → AreRound t list (xs ++ ys)
  either_round xs ys list (inl e) h k = subst (λ (zs : List Loop). AreRound t list (zs ++ ys)) (sym e) k
  either_round xs ys list (inr e) h k = subst (λ (zs : List Loop). AreRound t list (xs ++ zs)) (sym e) (subst (AreRound t list) (sym (append-nil xs)) h)

  module _ (n : ℕ) (h : Head) (b : StmtTrees) (there : statement_with n t ≡ Some (Do h b)) (inner : List Loop) (r : AreRound t (all_numbered b) inner) where
    own : (k : Loop) → k ≡ loop n h → IsLoopIn t (Do h b ∷ all_numbered b) k
    own k e = subst (λ (z : Loop). IsLoopIn t (Do h b ∷ all_numbered b) z) (sym e) (record { body = b; stands = there; one = inl refl })

    deeper : (k : Loop) → IsIn k inner → IsLoopIn t (Do h b ∷ all_numbered b) k
    deeper k i = let x = r.each k i in record { body = x.body; stands = x.stands; one = inr x.one }

    all_in : (k : Loop) → IsIn k (loop n h ∷ inner) → IsLoopIn t (Do h b ∷ all_numbered b) k
    all_in k i = elim i [ inl e ↦ own k e | inr j ↦ deeper k j ]

    abbrev Outer : Loop → Type 0
    Outer o = (c : StmtTrees) × (statement_with o.number t ≡ Some (Do o.head c)) × ((k : Loop) → IsIn k (loop n h ∷ inner) → IsLoopIn t (numbered (Do o.head c)) k)

    do_round : (round : Bool) → AreRound t (Do h b ∷ all_numbered b) (if round then loop n h ∷ inner else [])
    do_round true = record { each = all_in; outermost = λ o ks e. subst Outer (first_of (loop n h) o inner ks e) (b, there, all_in) }
    do_round false = none_round (Do h b ∷ all_numbered b)

  module _ (l : ℕ) where
    part_empty : (a b : StmtTrees) (n : ℕ) → (all_loops_round l a n ≡ []) ⊎ (all_loops_round l b (n + statements_count a) ≡ [])
    part_empty a b n = elim (cases_lt l (n + statements_count a)) [
      | inl below ↦ inr (all_none_from l b (n + statements_count a) (omega (arith, below)))
      | inr above ↦ inl (all_none_before l a n above)
    ]

    rest_empty : (x : StmtTree) (rest : StmtTrees) (n : ℕ) → (loops_round l x n ≡ []) ⊎ (all_loops_round l rest (n + statement_count x) ≡ [])
    rest_empty x rest n = elim (cases_lt l (n + statement_count x)) [
      | inl below ↦ inr (all_none_from l rest (n + statement_count x) (omega (arith, below)))
      | inr above ↦ inl (none_before l x n above)
    ]

    mutual
      round_in : (x : StmtTree) (n : ℕ) → Stand t n (numbered x) → AreRound t (numbered x) (loops_round l x n)
      round_in (Assign left right) n w = none_round (Assign left right ∷ [])
      round_in (If c a b) n w =
          let inside = inner_stands t (If c a b) (all_numbered a ++ all_numbered b) n w in
          either_round (all_loops_round l a (n + 1)) (all_loops_round l b (n + 1 + statements_count a)) (If c a b ∷ (all_numbered a ++ all_numbered b)) (part_empty a b (n + 1))
          (wider (all_numbered a) (If c a b ∷ (all_numbered a ++ all_numbered b)) (all_loops_round l a (n + 1)) (λ u i. inr (one_left u (all_numbered a) (all_numbered b) i)) (all_round_in a (n + 1) (first_stands t (n + 1) (all_numbered a) (all_numbered b) inside)))
          (wider (all_numbered b) (If c a b ∷ (all_numbered a ++ all_numbered b)) (all_loops_round l b (n + 1 + statements_count a)) (λ u i. inr (one_right u (all_numbered a) (all_numbered b) i)) (all_round_in b (n + 1 + statements_count a) (else_stands t a b (n + 1) inside)))
      round_in (Do h b) n w =
          do_round n h b (is_there t (Do h b) (all_numbered b) n w) (all_loops_round l b (n + 1)) (all_round_in b (n + 1) (inner_stands t (Do h b) (all_numbered b) n w)) (nat_lt n l && nat_le l (n + statements_count b))
      round_in (Print items) n w = none_round (Print items ∷ [])
      round_in (Read items) n w = none_round (Read items ∷ [])
      round_in Stop n w = none_round (Stop ∷ [])
      round_in (Comment text) n w = none_round []

      all_round_in : (xs : StmtTrees) (n : ℕ) → Stand t n (all_numbered xs) → AreRound t (all_numbered xs) (all_loops_round l xs n)
      all_round_in no_stmts n w = none_round []
      all_round_in (more_stmts x rest) n w =
          either_round (loops_round l x n) (all_loops_round l rest (n + statement_count x)) (numbered x ++ all_numbered rest) (rest_empty x rest n)
          (wider (numbered x) (numbered x ++ all_numbered rest) (loops_round l x n) (λ u i. one_left u (numbered x) (all_numbered rest) i) (round_in x n (first_stands t n (numbered x) (all_numbered rest) w)))
          (wider (all_numbered rest) (numbered x ++ all_numbered rest) (all_loops_round l rest (n + statement_count x)) (λ u i. one_right u (numbered x) (all_numbered rest) i) (all_round_in rest (n + statement_count x) (rest_stands t x rest n w)))

    -- the nest of a statement
    pub nest_is_round : AreRound t (all_numbered t.body) (nest_round t l)
    nest_is_round = all_round_in t.body 1 (whole_stands t)

-- the increment of a DO is right, and its variable is none of these
pub record IsProper (t : ProgramTree) (round : List (List ℕ)) (k : Loop) : Type 0 where
  pub step : step_is_right (setting_of t).constants k.head.step ≡ true
  pub other : is_among k.head.variable round ≡ false

-- so it is of each of these loops, where these are the variables of those round it
abbrev pub AreProper : ProgramTree → List (List ℕ) → List Loop → Type 0
AreProper t round [] = Unit {0}
AreProper t round (k ∷ ks) = IsProper t round k × AreProper t (k.head.variable ∷ round) ks

-- the variables of loops in one another, the innermost first, before others
abbrev pub variables_behind : List (List ℕ) → List Loop → List (List ℕ)
variables_behind round [] = round
variables_behind round (k ∷ ks) = variables_behind (k.head.variable ∷ round) ks

pub variables_last : (round : List (List ℕ)) (front : List Loop) (k : Loop) → variables_behind round (front ++ k ∷ []) ≡ k.head.variable ∷ variables_behind round front
variables_last round [] k = refl
variables_last round (m ∷ front) k = variables_last (m.head.variable ∷ round) front k

pub proper_parts : (t : ProgramTree) (round : List (List ℕ)) (front : List Loop) (k : Loop) → AreProper t round (front ++ k ∷ []) → AreProper t round front × IsProper t (variables_behind round front) k
proper_parts t round [] k h = (tt, h.0)
proper_parts t round (m ∷ front) k h = let rest = proper_parts t (m.head.variable ∷ round) front k h.1 in ((h.0, rest.0), rest.1)

module _ (t : ProgramTree) where
  either_proper : (round : List (List ℕ)) (xs ys : List Loop) → (xs ≡ []) ⊎ (ys ≡ []) → AreProper t round xs → AreProper t round ys → AreProper t round (xs ++ ys)
  either_proper round xs ys (inl e) h k = subst (λ (zs : List Loop). AreProper t round (zs ++ ys)) (sym e) k
  either_proper round xs ys (inr e) h k = subst (λ (zs : List Loop). AreProper t round (xs ++ zs)) (sym e) (subst (AreProper t round) (sym (append-nil xs)) h)

  do_proper : (round : List (List ℕ)) (n : ℕ) (h : Head) (inner : List Loop) → IsProper t round (loop n h) → AreProper t (h.variable ∷ round) inner → (b : Bool) → AreProper t round (if b then loop n h ∷ inner else [])
  do_proper round n h inner own rest true = (own, rest)
  do_proper round n h inner own rest false = tt

  module _ (l : ℕ) where
    mutual
      proper_in : (x : StmtTree) (n : ℕ) (around : Surroundings) → stmt_fits around x ≡ true → stmt_steps_are_right (setting_of t).constants x ≡ true → AreProper t around.variables (loops_round l x n)
      proper_in (Assign left right) n around f s = tt
      proper_in (If c a b) n around f s =
          let second = and_parts _ (stmts_fit (in_if around (1 + statements_count a)) b) f in
          let first = and_parts _ (stmts_fit (in_if around 1) a) second.0 in
          let steps = and_parts (steps_are_right (setting_of t).constants a) (steps_are_right (setting_of t).constants b) s in
          either_proper around.variables (all_loops_round l a (n + 1)) (all_loops_round l b (n + 1 + statements_count a)) (part_empty t l a b (n + 1))
          (all_proper_in a (n + 1) (in_if around 1) first.1 steps.0) (all_proper_in b (n + 1 + statements_count a) (in_if around (1 + statements_count a)) second.1 steps.1)
      proper_in (Do h b) n around f s =
          let parts = and_parts (loop_fits around h b) (stmts_fit (in_loop around h) b) f in
          let steps = and_parts (step_is_right (setting_of t).constants h.step) (steps_are_right (setting_of t).constants b) s in
          let own = head_fits around h b parts.0 in
          do_proper around.variables n h (all_loops_round l b (n + 1)) (record { step = steps.0; other = own.other }) (all_proper_in b (n + 1) (in_loop around h) parts.1 steps.1) (nat_lt n l && nat_le l (n + statements_count b))
      proper_in (Print items) n around f s = tt
      proper_in (Read items) n around f s = tt
      proper_in Stop n around f s = tt
      proper_in (Comment text) n around f s = tt

      all_proper_in : (xs : StmtTrees) (n : ℕ) (around : Surroundings) → stmts_fit around xs ≡ true → steps_are_right (setting_of t).constants xs ≡ true → AreProper t around.variables (all_loops_round l xs n)
      all_proper_in no_stmts n around f s = tt
      all_proper_in (more_stmts x rest) n around f s =
          let fits = and_parts (stmt_fits around x) (stmts_fit (moved around (statement_count x)) rest) f in
          let steps = and_parts (stmt_steps_are_right (setting_of t).constants x) (steps_are_right (setting_of t).constants rest) s in
          either_proper around.variables (loops_round l x n) (all_loops_round l rest (n + statement_count x)) (rest_empty t l x rest n)
          (proper_in x n around fits.0 steps.0) (all_proper_in rest (n + statement_count x) (moved around (statement_count x)) fits.1 steps.1)

    -- the nest of a statement of a valid program
    pub nest_is_proper : IsValid t → IsRight t → AreProper t [] (nest_round t l)
    nest_is_proper valid right =
        let fits = and_parts (decls_fit 0 t.decls) (stmts_fit (at_body t) t.body) (and_parts _ (begins_with_statement t.body) valid.fits).0 in
        all_proper_in t.body 1 (at_body t) fits.1 right.steps
