-- Increments of DO loops, and the values of their variables.
use Rattle.std.proofs.Common.{◌≡◌, ℕ, ◌-◌, ◌≤◌, ◌<◌, ◌==◌, ℤ, pos, ◌-ℤ◌, int_lt, unsigned_abs, int_rem, neg_ℤ, ◌<ℤ◌, ◌≤ℤ◌, FitsSigned, ◌⊎◌, inl, inr, Bool, true, false, not, ◌&&◌, ◌||◌, IsTrue, List, [], ◌∷◌, Option, Some, None, refl, sym, ap, ap₂, ◌∙◌, subst, arith, if◌then◌else◌}
use Rattle.std.specs.List.{list_all}
use Rattle.std.specs.Ordering.{int_eq}
use Rattle.std.proofs.lemmas.Bool.{and_parts}
use Rattle.std.specs.Int.{w64, w128}
use Rattle.std.proofs.lemmas.Int.{ints, rem_below, fits_signed_from_abs}
use Rattle.std.proofs.lemmas.List.Folds.{list_all-append}
use Rattle.ped_views.proofs.Products.{abs_some, linear}
use Rattle.ped_tree.specs.Tree.{Head, StmtTree, StmtTrees, Assign, If, Do, Print, Read, Stop, Comment, no_stmts, more_stmts, ProgramTree}
use Rattle.ped_tree.specs.Numbering.{numbered, all_numbered, at_place}
use Rattle.ped_loop_runs.specs.ped_symbols.specs.Kinds.{table_of}
use Rattle.ped_loop_runs.specs.ped_symbols.specs.NameRefusals.{IsValid}
use Rattle.ped_loop_runs.specs.ped_symbols.specs.RightUses.RightLoops.{is_small, is_step, step_is_right, stmt_steps_are_right, steps_are_right}
use Rattle.ped_loop_runs.specs.ped_symbols.proofs.RightUseLaws.Whole.{right_program}
use Rattle.ped_loop_runs.specs.ped_flow.specs.Questions.{IsLoop}
use Rattle.ped_rules.specs.Spans.{Span, has_iteration, span_by, spans_far, is_far, last_value}
use Rattle.ped_rules.specs.CodeSpans.{IsCourse, IsKnown, span_in}
use Rattle.ped_rules.specs.declared.spans.Span.{Span as CodeSpan}
use Rattle.ped_rules.specs.declared.spans.Course.TheVariants.{Far}

-- the increment of a DO is right; there is none in any other statement
abbrev own_step : List (List ℕ × ℤ) → StmtTree → Bool
own_step cs (Assign left right) = true
own_step cs (If condition then_part else_part) = true
own_step cs (Do h body) = step_is_right cs h.step
own_step cs (Print items) = true
own_step cs (Read items) = true
own_step cs Stop = true
own_step cs (Comment text) = true

mutual
  own_steps : (cs : List (List ℕ × ℤ)) (s : StmtTree) → list_all (own_step cs) (numbered s) ≡ stmt_steps_are_right cs s
  own_steps cs (Assign left right) = refl
  own_steps cs (If c a b) = list_all-append (own_step cs) (all_numbered a) (all_numbered b) ∙ ap₂ ◌&&◌ (all_own_steps cs a) (all_own_steps cs b)
  own_steps cs (Do h body) = ap (λ (r : Bool). step_is_right cs h.step && r) (all_own_steps cs body)
  own_steps cs (Print items) = refl
  own_steps cs (Read items) = refl
  own_steps cs Stop = refl
  own_steps cs (Comment text) = refl

  all_own_steps : (cs : List (List ℕ × ℤ)) (ss : StmtTrees) → list_all (own_step cs) (all_numbered ss) ≡ steps_are_right cs ss
  all_own_steps cs no_stmts = refl
  all_own_steps cs (more_stmts s rest) = list_all-append (own_step cs) (numbered s) (all_numbered rest) ∙ ap₂ ◌&&◌ (own_steps cs s) (all_own_steps cs rest)

one_found : (a b : StmtTree) → Some a ≡ Some b → a ≡ b
one_found a b e = cc

nothing_found : (b : StmtTree) → None ≡ Some b → ⊥
nothing_found b e = cc

at_found : (cs : List (List ℕ × ℤ)) (xs : List StmtTree) (k : ℕ) (s : StmtTree) → list_all (own_step cs) xs ≡ true → at_place xs k ≡ Some s → own_step cs s ≡ true
at_found cs [] k s all e = absurd (nothing_found s e)
at_found cs (x ∷ xs) k s all e =
    let rest = and_parts (own_step cs x) (list_all (own_step cs) xs) all in
    by (k == 0) refl (λ f. at_found cs xs (k - 1) s rest.1 f)
  where
    parts : (own_step cs x ≡ true) × (list_all (own_step cs) xs ≡ true)
    parts = and_parts (own_step cs x) (list_all (own_step cs) xs) all

    by : (r : Bool) → (k == 0) ≡ r → (at_place xs (k - 1) ≡ Some s → own_step cs s ≡ true) → own_step cs s ≡ true
    by true z f = ap (own_step cs) (sym (one_found x s (sym (ap (λ (b : Bool). if b then Some x else at_place xs (k - 1)) z) ∙ e))) ∙ parts.0
    by false z f = f (sym (ap (λ (b : Bool). if b then Some x else at_place xs (k - 1)) z) ∙ e)

-- the increment of a DO of a valid program has a value that it may have
pub right_step : (t : ProgramTree) (l : ℕ) (h : Head) (body : StmtTrees) → IsValid t → IsLoop t l h body → IsTrue (step_is_right (table_of t).constants h.step)
right_step t l h body v is = by (l == 0) refl
  where
    by : (r : Bool) → (l == 0) ≡ r → IsTrue (step_is_right (table_of t).constants h.step)
    by true z = absurd (nothing_found (Do h body) (sym (ap (λ (b : Bool). if b then None else at_place (all_numbered t.body) (l - 1)) z) ∙ is))
    by false z =
        at_found (table_of t).constants (all_numbered t.body) (l - 1) (Do h body) (all_own_steps (table_of t).constants t.body ∙ (right_program t v).steps)
        (sym (ap (λ (b : Bool). if b then None else at_place (all_numbered t.body) (l - 1)) z) ∙ is)

far_by : (a b : Bool) → b ≡ true → (a || b) ≡ true
far_by true b e = refl
far_by false b e = e

-- a lesser number passes the test
lt_is : (a b : ℤ) → a <ℤ b → int_lt a b ≡ true
lt_is a b h = go (int_lt a b) refl
  where
    go : (c : Bool) → int_lt a b ≡ c → int_lt a b ≡ true
    go true e = e
    go false e = absurd (omega (arith, linear, e, h))

pub step_parts : (m3 : ℤ) → IsTrue (is_step (Some m3)) → (¬ (m3 ≡ pos 0)) × (unsigned_abs m3 < 2147483648)
step_parts m3 h =
    let p = and_parts (not (int_eq m3 (pos 0))) (is_small m3) h in
    (λ e. (let q : not (int_eq (pos 0) (pos 0)) ≡ true = subst (λ (z : ℤ). not (int_eq z (pos 0)) ≡ true) e p.0 in absurd cc), grind (arith, p.1))

-- a limit that lies far off has a far value before it
pub far_last : (m1 m2 m3 : ℤ) → (pos 8589934592 <ℤ m2) ⊎ (m2 <ℤ neg_ℤ (pos 8589934592)) → IsTrue (is_step (Some m3)) → is_far (last_value m1 m2 m3) ≡ true
far_last m1 m2 m3 far step = by far
  where
    small : unsigned_abs (int_rem (m2 -ℤ m1) m3) < 2147483648
    small = let parts = step_parts m3 step in let below = rem_below (m2 -ℤ m1) m3 (abs_some m3 parts.0) in omega (arith, below, parts.1)

    above : (m r : ℤ) → pos 8589934592 <ℤ m → unsigned_abs r < 2147483648 → pos 2147483647 <ℤ (m -ℤ r)
    above m r a b = omega (arith, linear, a, b)

    under : (m r : ℤ) → m <ℤ neg_ℤ (pos 8589934592) → unsigned_abs r < 2147483648 → (m -ℤ r) <ℤ neg_ℤ (pos 2147483647)
    under m r a b = omega (arith, linear, a, b)

    by : (pos 8589934592 <ℤ m2) ⊎ (m2 <ℤ neg_ℤ (pos 8589934592)) → is_far (last_value m1 m2 m3) ≡ true
    by (inl a) = ap (λ (b : Bool). b || int_lt (last_value m1 m2 m3) (neg_ℤ (pos 2147483647))) (lt_is (pos 2147483647) (last_value m1 m2 m3) (above m2 (int_rem (m2 -ℤ m1) m3) a small))
    by (inr a) = far_by (int_lt (pos 2147483647) (last_value m1 m2 m3)) (int_lt (last_value m1 m2 m3) (neg_ℤ (pos 2147483647))) (lt_is (last_value m1 m2 m3) (neg_ℤ (pos 2147483647)) (under m2 (int_rem (m2 -ℤ m1) m3) a small))

-- a number that passes the test is less
pub less_is : (a b : ℤ) → int_lt a b ≡ true → a <ℤ b
less_is a b h = omega (arith, linear, h)

-- a number that isn't far is small
pub near_is : (n : ℤ) → is_far n ≡ false → unsigned_abs n ≤ 2147483647
near_is n h = grind (arith, linear, h)

-- and has 64 bits
pub near_fits : (n : ℤ) → unsigned_abs n ≤ 2147483647 → FitsSigned w64 n
near_fits n h = fits_signed_from_abs w64 n (omega (arith, h))

-- what is left of the way to a limit, and the limit less it, have 128 bits
pub left_fits : (last left step : ℤ) → neg_ℤ (pos 8589934592) ≤ℤ last → last ≤ℤ pos 8589934592 → unsigned_abs left < unsigned_abs step → IsTrue (is_step (Some step)) → FitsSigned w128 left × FitsSigned w128 (last -ℤ left)
left_fits last left step above below less right =
    let parts = step_parts step right in
    let small : unsigned_abs left < 2147483648 = omega (arith, less, parts.1) in
    (fits_signed_from_abs w128 left (omega (arith, small)), within last left above below small)
  where
    within : (m r : ℤ) → neg_ℤ (pos 8589934592) ≤ℤ m → m ≤ℤ pos 8589934592 → unsigned_abs r < 2147483648 → FitsSigned w128 (m -ℤ r)
    within m r a b h = omega (arith, linear, a, b, h)

-- the way to a limit has 128 bits
pub way_fits : (first last : ℤ) → is_far first ≡ false → neg_ℤ (pos 8589934592) ≤ℤ last → last ≤ℤ pos 8589934592 → FitsSigned w128 (last -ℤ first)
way_fits first last near above below = grind (arith, linear, near, above, below)

module _ (m1 m2 m3 : ℤ) where
  -- a DO with iterations that has a far value
  pub course_far : has_iteration m1 m2 m3 ≡ true → spans_far (record { first = m1; last = last_value m1 m2 m3 }) ≡ true → IsCourse (span_by (Some m1) (Some m2) (Some m3)) Far
  course_far has far =
      let v : Span = record { first = m1; last = last_value m1 m2 m3 } in
      (v, ap (λ (b : Bool). if b then Some v else None) has, far)

  pub far_first : is_far m1 ≡ true → spans_far (record { first = m1; last = last_value m1 m2 m3 }) ≡ true
  far_first e = ap (λ (b : Bool). b || is_far (last_value m1 m2 m3)) e

  pub far_second : is_far (last_value m1 m2 m3) ≡ true → spans_far (record { first = m1; last = last_value m1 m2 m3 }) ≡ true
  far_second e = far_by (is_far m1) (is_far (last_value m1 m2 m3)) e

one_span : (v w : Span) → Some v ≡ Some w → v ≡ w
one_span v w e = cc

pub near_not_far : (n : ℤ) → unsigned_abs n ≤ 2147483647 → is_far n ≡ true → ⊥
near_not_far n h far = grind (arith, ints, h, far)

neither : (a b : Bool) → (a || b) ≡ true → (a ≡ true → ⊥) → (b ≡ true → ⊥) → ⊥
neither true b e f g = f refl
neither false b e f g = g e

-- values that literals have aren't far
pub near_spans : (found : Option Span) (u : CodeSpan) (v : Span) → IsKnown found (Some u) → found ≡ Some v → spans_far v ≡ true → ⊥
near_spans found u v known is far =
    neither (is_far u.first) (is_far u.last) (ap spans_far (one_span (span_in u) v (sym known.0 ∙ is)) ∙ far) (near_not_far u.first known.1.first) (near_not_far u.last known.1.last)
