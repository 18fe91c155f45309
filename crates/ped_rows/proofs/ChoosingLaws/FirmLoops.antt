-- DO loops with constant bounds: their ranges, and their iterations by these.
use Rattle.std.proofs.Common.{◌≡◌, ◌⊎◌, inl, inr, ℕ, zero, suc, ◌-◌, ℤ, pos, ◌+ℤ◌, ◌*ℤ◌, int_eq, List, [], ◌∷◌, ◌++◌, take, drop, Bool, true, false, not, ◌&&◌, Option, Some, None, if◌then◌else◌, unwrap_or, refl, sym, ap, ◌∙◌, subst}
use Rattle.std.specs.List.{list_all, AllByRecursion}
use Rattle.std.proofs.lemmas.Bool.{and_parts}
use Rattle.std.proofs.lemmas.Bool.Decides.{Decides-int_eq}
use Rattle.ped_laws.specs.ped_graph.specs.ped_views.specs.declared.directions.Direction.{Direction}
use Rattle.ped_laws.specs.ped_graph.specs.ped_views.specs.Views.{Range}
use Rattle.ped_laws.specs.ped_flow.specs.ped_tree.specs.Tree.{ExprTree, Int, Var, Element, Neg, Add, Sub, Mul, Div, Pow, Call, Head, StmtTree, StmtTrees, Assign, If, Do, Print, Read, Stop, Comment, no_stmts, more_stmts, ProgramTree}
use Rattle.ped_laws.specs.ped_flow.specs.ped_tree.specs.Nests.{Loop}
use Rattle.ped_laws.specs.ped_flow.specs.ped_tree.specs.Numbering.{numbered, all_numbered}
use Rattle.ped_laws.specs.ped_flow.specs.ped_tree.specs.Constants.NamedConstants.{value_named}
use Rattle.ped_laws.specs.ped_flow.specs.ped_tree.specs.Constants.ConstantExpressions.{constant_value}
use Rattle.ped_laws.specs.ped_flow.specs.ped_base.specs.Lists.{is_among}
use Rattle.ped_laws.specs.ped_flow.specs.ped_affine.specs.IntervalArithmetic.{point, interval_sum, interval_difference, interval_negation, interval_product}
use Rattle.ped_laws.specs.ped_flow.specs.ped_affine.specs.Ranges.{Setting, Around, is_near, kept_near, constant_or, of_one, of_two, variable_interval, call_interval, interval_of, intervals_of, near_or_all, bound_interval, step_by, range_between, loop_range, inside, ranges_inside}
use Rattle.ped_laws.specs.ped_flow.specs.ped_affine.specs.PairViews.{heads_of}
use Rattle.ped_laws.specs.ped_graph.specs.ped_symbols.specs.Values.{Values}
use Rattle.ped_laws.specs.ped_graph.specs.ped_symbols.specs.Kinds.{at_last}
use Rattle.ped_laws.specs.ped_graph.specs.ped_symbols.specs.NameRefusals.{IsValid}
use Rattle.ped_laws.specs.ped_graph.specs.ped_symbols.specs.RightUses.RightLoops.{is_small, is_step, step_is_right, stmt_steps_are_right, steps_are_right}
use Rattle.ped_laws.specs.ped_graph.specs.ped_symbols.proofs.RightUseLaws.Whole.{right_program}
use Rattle.ped_laws.specs.ped_graph.specs.Marks.{is_near_constant, has_constant_bounds}
use Rattle.ped_laws.specs.ped_eval.specs.Loops.{increment}
use Rattle.ped_laws.specs.Plain.Executions.{IsOneOf}
use Rattle.ped_laws.proofs.CoveringLaws.Comings.{some_one}
use Rattle.ped_rows.proofs.Trips.{IsTrip, AreTrips, trip_value, trip_values, NumbersStand}
use Rattle.ped_rows.proofs.ChoosingLaws.RowDistances.{value_at, IsShort}
use Rattle.ped_rows.proofs.ChoosingLaws.RangeCounts.{IsRangeOf, range_of, is_counted}
use Rattle.ped_rows.proofs.ChoosingLaws.LoopChoices.{IsFirmRange, AreShort, values_at}
use Rattle.ped_rows.proofs.ChoosingLaws.ReferenceNests.{AreHere}
use Rattle.ped_rows.proofs.ChoosingLaws.AssignedNames.{one_of_program, steady_constant}

-- a DO with constant bounds and a right increment
pub record IsFirmHead (constants : Values) (h : Head) : Type 0 where
  pub first : ℤ
  pub last : ℤ
  pub first_is : constant_value constants h.first ≡ Some first
  pub last_is : constant_value constants h.last ≡ Some last
  pub first_near : is_near first ≡ true
  pub last_near : is_near last ≡ true
  pub step : step_is_right constants h.step ≡ true

abbrev pub AreFirm : Values → List Loop → Type 0
AreFirm constants nest = AllByRecursion (λ l. IsFirmHead constants l.head) nest

near_constant : (o : Option ℤ) → is_near_constant o ≡ true → (n : ℤ) × (o ≡ Some n) × (is_near n ≡ true)
near_constant None h = absurd cc
near_constant (Some n) h = (n, refl, h)

-- in a valid program the increment of each DO is right
module _ (constants : Values) (h : Head) (b : StmtTrees) where
  in_either : (xs ys : List StmtTree) → IsOneOf (Do h b) (xs ++ ys) → IsOneOf (Do h b) xs ⊎ IsOneOf (Do h b) ys
  in_either [] ys i = inr i
  in_either (x ∷ xs) ys i = elim i [ inl e ↦ inl (inl e) | inr j ↦ elim (in_either xs ys j) [ inl k ↦ inl (inr k) | inr k ↦ inr k ] ]

  -- the increment of a DO, where the statement is one
  abbrev own_step : StmtTree → Bool
  own_step (Do g c) = step_is_right constants g.step
  own_step (Assign left right) = true
  own_step (If condition x y) = true
  own_step (Print items) = true
  own_step (Read items) = true
  own_step Stop = true
  own_step (Comment text) = true

  mutual
    step_in : (s : StmtTree) → stmt_steps_are_right constants s ≡ true → IsOneOf (Do h b) (numbered s) → step_is_right constants h.step ≡ true
    step_in (Do g c) r i =
        let p = and_parts (step_is_right constants g.step) (steps_are_right constants c) r in
        elim i [ inl e ↦ ap own_step (sym e) ∙ p.0 | inr j ↦ steps_in c p.1 j ]
    step_in (If condition x y) r i =
        let p = and_parts (steps_are_right constants x) (steps_are_right constants y) r in
        elim i [ inl e ↦ absurd cc | inr j ↦ elim (in_either (all_numbered x) (all_numbered y) j) [ inl k ↦ steps_in x p.0 k | inr k ↦ steps_in y p.1 k ] ]
    step_in (Assign left right) r i = elim i [ inl e ↦ absurd cc | inr j ↦ absurd j ]
    step_in (Print items) r i = elim i [ inl e ↦ absurd cc | inr j ↦ absurd j ]
    step_in (Read items) r i = elim i [ inl e ↦ absurd cc | inr j ↦ absurd j ]
    step_in Stop r i = elim i [ inl e ↦ absurd cc | inr j ↦ absurd j ]
    step_in (Comment text) r i = absurd i

    steps_in : (ss : StmtTrees) → steps_are_right constants ss ≡ true → IsOneOf (Do h b) (all_numbered ss) → step_is_right constants h.step ≡ true
    steps_in no_stmts r i = absurd i
    steps_in (more_stmts s rest) r i =
        let p = and_parts (stmt_steps_are_right constants s) (steps_are_right constants rest) r in
        elim (in_either (numbered s) (all_numbered rest) i) [ inl k ↦ step_in s p.0 k | inr k ↦ steps_in rest p.1 k ]

-- the loops of a program whose bounds are constants
pub firm_nest : (t : ProgramTree) (nest : List Loop) → IsValid t → AreHere t nest → list_all (has_constant_bounds (at_last t).values) nest ≡ true → AreFirm (at_last t).values nest
firm_nest t [] valid here h = tt
firm_nest t (l ∷ ls) valid here h =
    let constants : Values = (at_last t).values in
    let p = and_parts (has_constant_bounds constants l) (list_all (has_constant_bounds constants) ls) h in
    let q = and_parts (is_near_constant (constant_value constants l.head.first)) (is_near_constant (constant_value constants l.head.last)) p.0 in
    let first = near_constant (constant_value constants l.head.first) q.0 in
    let last = near_constant (constant_value constants l.head.last) q.1 in (
      record {
        first = first.0;
        last = last.0;
        first_is = first.1;
        last_is = last.1;
        first_near = first.2;
        last_near = last.2;
        step = steps_in constants l.head here.0.0 t.body (right_program t valid).steps (one_of_program (Do l.head here.0.0) t l.number here.0.1);
      },
      firm_nest t ls valid here.1 p.1,
    )

-- an increment that has a right value counts with it, and isn't 0
step_same : (c : Option ℤ) → is_step c ≡ true → step_by c ≡ unwrap_or c (pos 1)
step_same None h = refl
step_same (Some n) h = ap (λ (b : Bool). if b then n else pos 1) h

step_some : (c : Option ℤ) → is_step c ≡ true → ¬ (unwrap_or c (pos 1) ≡ pos 0)
step_some None h e = absurd cc
step_some (Some n) h e =
    let p = (and_parts (not (int_eq n (pos 0))) (is_small n) h).0 in
    let z : not (int_eq n (pos 0)) ≡ false = ap not ((Decides-int_eq n (pos 0)).1 e) in
    absurd cc

module _ (s : Setting) (kept : (x : List ℕ) (n : ℤ) → value_named s.constants x ≡ Some n → is_among x s.assigned ≡ false) where
  kept_point : (n : ℤ) → is_near n ≡ true → kept_near (point n) ≡ Some (point n)
  kept_point n h = λ i. if h i && h i then Some (point n) else None

  -- the interval of a constant expression is its value alone
  constant_interval : (around : Around) (e : ExprTree) (n : ℤ) → constant_value s.constants e ≡ Some n → is_near n ≡ true → interval_of s around e ≡ Some (point n)
  constant_interval around (Int m) n h near = ap (λ (z : ℤ). kept_near (point z)) (some_one (pos m) n h) ∙ kept_point n near
  constant_interval around (Var x) n h near = ap (λ o. constant_or o (variable_interval s around x)) h ∙ kept_point n near
  constant_interval around (Element x subscripts) n h near = absurd cc
  constant_interval around (Neg a) n h near = ap (λ o. constant_or o (of_one interval_negation (interval_of s around a))) h ∙ kept_point n near
  constant_interval around (Add a b) n h near = ap (λ o. constant_or o (of_two interval_sum (interval_of s around a) (interval_of s around b))) h ∙ kept_point n near
  constant_interval around (Sub a b) n h near = ap (λ o. constant_or o (of_two interval_difference (interval_of s around a) (interval_of s around b))) h ∙ kept_point n near
  constant_interval around (Mul a b) n h near = ap (λ o. constant_or o (of_two interval_product (interval_of s around a) (interval_of s around b))) h ∙ kept_point n near
  constant_interval around (Div a b) n h near = ap (λ o. constant_or o None) h ∙ kept_point n near
  constant_interval around (Pow a b) n h near = ap (λ o. constant_or o None) h ∙ kept_point n near
  constant_interval around (Call f arguments) n h near = ap (λ o. constant_or o (call_interval f (intervals_of s around arguments))) h ∙ kept_point n near

  constant_bound : (around : Around) (e : ExprTree) (n : ℤ) → constant_value s.constants e ≡ Some n → is_near n ≡ true → bound_interval s around e ≡ point n
  constant_bound around e n h near = ap near_or_all (constant_interval around e n h near)

  -- the range of a DO with constant bounds
  firm_range : (around : Around) (h : Head) (f : IsFirmHead s.constants h) → IsRangeOf (loop_range s around h) f.first f.last (increment s.constants h) true
  firm_range around h f =
      let step = step_same (constant_value s.constants h.step) f.step in
      let steady = steady_constant s kept h.first f.first f.first_is in
      subst (λ (r : Range). IsRangeOf r f.first f.last (increment s.constants h) true)
      (λ i. range_between (sym (constant_bound around h.first f.first f.first_is f.first_near) i) (sym (constant_bound around h.last f.last f.last_is f.last_near) i) (sym step i) (sym steady i))
      (range_of f.first f.last (increment s.constants h) true)

  pub some_step : (h : Head) → IsFirmHead s.constants h → ¬ (increment s.constants h ≡ pos 0)
  some_step h f = step_some (constant_value s.constants h.step) f.step

  -- the ranges of loops with constant bounds have steps, and begin with one value for all entries
  pub firm_ranges : (around : Around) (ls : List Loop) → AreFirm s.constants ls → AllByRecursion IsFirmRange (ranges_inside s around (heads_of ls))
  firm_ranges around [] h = tt
  firm_ranges around (l ∷ ls) h =
      let r = firm_range around l.head h.0 in (
        record { steady = r.steady_is; step = λ e. some_step l.head h.0 (sym r.step_is ∙ e) },
        firm_ranges (inside around l.head (loop_range s around l.head)) ls h.1,
      )

  trip_of : (around : Around) (h : Head) (f : IsFirmHead s.constants h) (k : ℕ) → IsShort (loop_range s around h) k → IsTrip s.constants h k
  trip_of around h f k short = record {
    first = f.first;
    last = f.last;
    first_is = f.first_is;
    last_is = f.last_is;
    from = short.from;
    to = is_counted (loop_range s around h) f.first f.last (increment s.constants h) true k (firm_range around h f) (some_step h f) short;
  }

  value_is : (around : Around) (h : Head) (f : IsFirmHead s.constants h) (k : ℕ) → trip_value s.constants h k ≡ value_at (loop_range s around h) k
  value_is around h f k =
      let r = firm_range around h f in
      (λ i. unwrap_or (f.first_is i) (pos 0) +ℤ pos (k - 1) *ℤ increment s.constants h) ∙ (λ i. sym r.begins i +ℤ pos (k - 1) *ℤ sym r.step_is i)

  -- iterations that the ranges have are those of the loops, and have the values of their variables
  pub firm_trips : (around : Around) (ls : List Loop) (ks : List ℕ) → AreFirm s.constants ls → AreShort (ranges_inside s around (heads_of ls)) ks
      → AreTrips s.constants ls ks × (trip_values s.constants ls ks ≡ values_at (ranges_inside s around (heads_of ls)) ks)
  firm_trips around [] [] h short = (tt, refl)
  firm_trips around [] (k ∷ ks) h short = absurd short
  firm_trips around (l ∷ ls) [] h short = absurd short
  firm_trips around (l ∷ ls) (k ∷ ks) h short =
      let more = firm_trips (inside around l.head (loop_range s around l.head)) ls ks h.1 short.1 in (
        (trip_of around l.head h.0 k short.0, more.0),
        λ i. value_is around l.head h.0 k i ∷ more.1 i,
      )

-- iterations of the first loops and of those behind them
pub short_parts : (c : ℕ) (rs : List Range) (ks more : List ℕ) → AreShort (take c rs) ks → AreShort (drop c rs) more
    → AreShort rs (ks ++ more) × (take c (values_at rs (ks ++ more)) ≡ values_at (take c rs) ks) × (drop c (values_at rs (ks ++ more)) ≡ values_at (drop c rs) more)
short_parts zero rs [] more h g = (g, refl, refl)
short_parts zero rs (k ∷ ks) more h g = absurd h
short_parts (suc c) [] [] [] h g = (tt, refl, refl)
short_parts (suc c) [] [] (m ∷ ms) h g = absurd g
short_parts (suc c) [] (k ∷ ks) more h g = absurd h
short_parts (suc c) (r ∷ rs) [] more h g = absurd h
short_parts (suc c) (r ∷ rs) (k ∷ ks) more h g = let p = short_parts c rs ks more h.1 g in ((h.0, p.0), ap (λ xs. value_at r k ∷ xs) p.1, p.2)

-- numbers that stand in directions do so where more of them come after
pub numbers_more : (ds : List Direction) (is js more others : List ℕ) → NumbersStand ds is js → NumbersStand ds (is ++ more) (js ++ others)
numbers_more [] is js more others h = tt
numbers_more (d ∷ ds) [] js more others h = absurd h
numbers_more (d ∷ ds) (i ∷ is) [] more others h = absurd h
numbers_more (d ∷ ds) (i ∷ is) (j ∷ js) more others h = (h.0, numbers_more ds is js more others h.1)
