-- The values of the common loops at two places of one execution stand in their ranges, in their directions and in step.
use Rattle.std.proofs.Common.{◌≡◌, ℕ, suc, ◌==◌, ℤ, pos, ◌+ℤ◌, ◌-ℤ◌, ◌*ℤ◌, int_lt, unwrap_or, List, [], ◌∷◌, map, take, drop, length, Bool, true, false, Option, Some, None, Result, Ok, if◌then◌else◌, refl, sym, ap, ◌∙◌, subst, arith}
use Rattle.std.specs.Bool.{MatchBool}
use Rattle.std.proofs.Math.IntN.{*ℤ_comm}
use Rattle.std.proofs.lemmas.Bool.{eqb-true}
use Rattle.ped_graph.specs.ped_views.specs.declared.directions.Direction.{Direction}
use Rattle.ped_graph.specs.ped_views.specs.declared.intervals.Interval.{Interval}
use Rattle.ped_graph.specs.ped_views.specs.Whole.{Divides}
use Rattle.ped_graph.specs.ped_views.specs.Views.{Range, range}
use Rattle.ped_graph.specs.ped_views.specs.Excluded.{StandsByValue, by_value, InRange}
use Rattle.ped_graph.specs.ped_views.proofs.Products.{linear, mul-sub}
use Rattle.ped_flow.specs.ped_tree.specs.Tree.{Head, StmtTrees, Do, ProgramTree}
use Rattle.ped_flow.specs.ped_tree.specs.Nests.{Loop, common_nest}
use Rattle.ped_flow.specs.ped_tree.specs.Numbering.{statement_with}
use Rattle.ped_flow.specs.ped_tree.specs.Constants.ConstantExpressions.{constant_value}
use Rattle.ped_eval.specs.ped_store.specs.Stores.{Store}
use Rattle.ped_eval.specs.ped_store.specs.Acts.{Turn}
use Rattle.ped_graph.specs.ped_symbols.specs.RightUses.RightLoops.{is_step}
use Rattle.ped_eval.specs.Scopes.{names_in}
use Rattle.ped_eval.specs.Values.{value}
use Rattle.ped_eval.specs.Loops.{increment}
use Rattle.ped_eval.specs.Outcomes.{setting_of}
use Rattle.ped_flow.specs.ped_affine.specs.Ranges.{Setting, Around, bound_interval, step_by, is_steady, range_between, loop_range, inside, ranges_inside}
use Rattle.ped_flow.specs.ped_affine.specs.PairViews.{heads_of}
use Rattle.ped_graph.specs.Dependences.{setting_in}
use Rattle.ped_laws.specs.Covering.Nested.{AreIterations}
use Rattle.ped_laws.specs.Covering.Together.{AreValues, CommonValues, ValuesInRange}
use Rattle.ped_laws.proofs.CoveringLaws.Comings.{ok_one}
use Rattle.ped_laws.specs.Conflicts.Directions.{step_in, step_at, StandInDirections}
use Rattle.ped_laws.proofs.ConflictLaws.PossibleTurns.{IsTurn, AreTurns}

-- an increment that has a right value counts with it
step_same : (c : Option ℤ) → is_step c ≡ true → step_by c ≡ unwrap_or c (pos 1)
step_same None h = refl
step_same (Some n) h = ap (λ (b : Bool). if b then n else pos 1) h

range_step : (a b : Interval) (step : ℤ) (steady : Bool) → (range_between a b step steady).step ≡ step
range_step a b step steady = go (int_lt step (pos 0))
  where
    go : (c : Bool) → (if c then range b.lo a.hi step steady else range a.lo b.hi step steady).step ≡ step
    go true = refl
    go false = refl

range_steady : (a b : Interval) (step : ℤ) (steady : Bool) → (range_between a b step steady).steady ≡ steady
range_steady a b step steady = go (int_lt step (pos 0))
  where
    go : (c : Bool) → (if c then range b.lo a.hi step steady else range a.lo b.hi step steady).steady ≡ steady
    go true = refl
    go false = refl

-- two values that stand some steps from one value are whole steps apart
steps_apart : (a step i j : ℤ) (p q : ℕ) → i ≡ a +ℤ pos p *ℤ step → j ≡ a +ℤ pos q *ℤ step → Divides step (j -ℤ i)
steps_apart a step i j p q x y =
    let m = mul-sub step (pos q) (pos p) in
    let u = *ℤ_comm step (pos q) in
    let v = *ℤ_comm step (pos p) in
    (pos q -ℤ pos p, omega (arith, linear))

same_head : (t : ProgramTree) (l m : Loop) (a b : StmtTrees) → l.number ≡ m.number → statement_with l.number t ≡ Some (Do l.head a) → statement_with m.number t ≡ Some (Do m.head b) → l.head ≡ m.head
same_head t l m a b e x y =
    let both : Some (Do l.head a) ≡ Some (Do m.head b) = sym x ∙ (ap (λ (n : ℕ). statement_with n t) e ∙ y) in
    let its : Do l.head a ≡ Do m.head b = cc in
    cc

-- each value lies in the range of its loop
values_in : (ls : List Loop) (rs : List Range) (is : List Turn) → AreIterations (λ n. n) ls rs is → ValuesInRange rs (map (λ i. i.value) is)
values_in [] [] [] h = tt
values_in [] [] (i ∷ is) h = absurd h
values_in [] (r ∷ rs) is h = absurd h
values_in (l ∷ ls) [] is h = absurd h
values_in (l ∷ ls) (r ∷ rs) [] h = absurd h
values_in (l ∷ ls) (r ∷ rs) (i ∷ is) h = (h.1, values_in ls rs is h.2)

module _ (t : ProgramTree) (o : ℕ) (first : Store) where
  abbrev s : Setting
  s = setting_in t o

  -- what is to be shown of the first k loops and of those behind them
  abbrev pub Fit : ℕ → List Range → List Range → List Direction → List ℤ → List ℤ → Type 0
  Fit k rs qs vector is js = CommonValues (take k rs) vector (take k is) (take k js) × ValuesInRange (drop k rs) (drop k is) × ValuesInRange (drop k qs) (drop k js)

  none_common : (ls ms : List Loop) (rs qs : List Range) (is js : List Turn) (vector : List Direction) → AreIterations (λ n. n) ls rs is → AreIterations (λ n. n) ms qs js → vector ≡ [] → Fit 0 rs qs vector (map (λ i. i.value) is) (map (λ i. i.value) js)
  none_common ls ms rs qs is js vector h k e = (subst (λ (v : List Direction). CommonValues [] v [] []) (sym e) tt, values_in ls rs is h, values_in ms qs js k)

  one_value : (n m : ℤ) (r q : Result ℤ ℕ) → r ≡ q → r ≡ Ok n → q ≡ Ok m → n ≡ m
  one_value n m r q e x y = ok_one n m (sym x ∙ (e ∙ y))

  -- the values of one loop at both places
  values_stand : (around : Around) (l m : Loop) (i j : Turn) (d : Direction) → IsTurn t o first l i → IsTurn t o first m j → l.head ≡ m.head
      → InRange (loop_range s around l.head) i.value → InRange (loop_range s around l.head) j.value → StandsByValue (by_value (step_at t i.statement) d) i.value j.value → AreValues (loop_range s around l.head) d i.value j.value
  values_stand around l m i j d at_source at_sink same from to stands =
      let c : Option ℤ = constant_value s.constants l.head.step in
      let a : Interval = bound_interval s around l.head.first in
      let b : Interval = bound_interval s around l.head.last in
      let steady : Bool = is_steady s l.head.first in
      let step : (loop_range s around l.head).step ≡ step_by c = range_step a b (step_by c) steady in
      let by : step_by c ≡ increment (setting_of t).constants l.head = step_same c at_source.step in
      let here : step_at t i.statement ≡ step_by c = ap (step_at t) at_source.statement ∙ ap (step_in (setting_of t).constants) at_source.stands in
      record {
        source = from;
        sink = to;
        stands = subst (λ (z : ℤ). StandsByValue (by_value z d) i.value j.value) (here ∙ sym step) stands;
        in_step = λ h.
            let is_so : steady ≡ true = sym (range_steady a b (step_by c) steady) ∙ h in
            let sink_so : is_steady s m.head.first ≡ true = ap (λ (z : Head). is_steady s z.first) (sym same) ∙ is_so in
            let begin : at_source.initial ≡ at_sink.initial = one_value at_source.initial at_sink.initial (value (names_in (setting_of t) []) l.head.first first).result (value (names_in (setting_of t) []) m.head.first first).result
            (ap (λ (z : Head). (value (names_in (setting_of t) []) z.first first).result) same) (at_source.steady is_so) (at_sink.steady sink_so) in
            let other : j.value ≡ at_source.initial +ℤ pos at_sink.steps *ℤ increment (setting_of t).constants l.head =
            at_sink.stood ∙ (λ k. sym begin k +ℤ pos at_sink.steps *ℤ increment (setting_of t).constants (sym same k)) in
            subst (λ (z : ℤ). Divides z (j.value -ℤ i.value)) (sym (step ∙ by)) (steps_apart at_source.initial (increment (setting_of t).constants l.head) i.value j.value at_source.steps at_sink.steps at_source.stood other);
      }

  module _ (around : Around) (l m : Loop) (ls ms : List Loop) (i j : Turn) (is js : List Turn) where
    -- the directions of both loops and of those in them
    abbrev Here : List Direction → Type 0
    Here vector = (d : Direction) × (rest : List Direction) × (vector ≡ d ∷ rest) × StandsByValue (by_value (step_at t i.statement) d) i.value j.value × StandInDirections t is js rest

    abbrev deep : Around
    deep = inside around l.head (loop_range s around l.head)

    -- the same of the loops in both
    abbrev Rest : Type 0
    Rest = (more : List Direction) → AreTurns t o first ls is → AreTurns t o first ms js → AreIterations (λ n. n) ls (ranges_inside s deep (heads_of ls)) is → AreIterations (λ n. n) ms (ranges_inside s deep (heads_of ms)) js → StandInDirections t is js more
        → Fit (length (common_nest ls ms)) (ranges_inside s deep (heads_of ls)) (ranges_inside s deep (heads_of ms)) more (map (λ z. z.value) is) (map (λ z. z.value) js)

    -- where the first loops are common, or not
    one_more : (vector : List Direction) → AreTurns t o first (l ∷ ls) (i ∷ is) → AreTurns t o first (m ∷ ms) (j ∷ js)
        → AreIterations (λ n. n) (l ∷ ls) (ranges_inside s around (heads_of (l ∷ ls))) (i ∷ is) → AreIterations (λ n. n) (m ∷ ms) (ranges_inside s around (heads_of (m ∷ ms))) (j ∷ js)
        → (z : Bool) → (l.number == m.number) ≡ z → Rest → MatchBool z (Here vector) (vector ≡ [])
        → Fit (length (if z then l ∷ common_nest ls ms else [])) (ranges_inside s around (heads_of (l ∷ ls))) (ranges_inside s around (heads_of (m ∷ ms))) vector (map (λ z. z.value) (i ∷ is)) (map (λ z. z.value) (j ∷ js))
    one_more vector a b h k false same rest none = none_common (l ∷ ls) (m ∷ ms) (ranges_inside s around (heads_of (l ∷ ls))) (ranges_inside s around (heads_of (m ∷ ms))) (i ∷ is) (j ∷ js) vector h k none
    one_more vector a b h k true same rest there =
        let n : ℕ = length (common_nest ls ms) in
        let head : l.head ≡ m.head = same_head t l m a.0.body b.0.body (eqb-true l.number m.number same) a.0.stands b.0.stands in
        let sink = subst (λ (z : Head). InRange (loop_range s around z) j.value × AreIterations (λ n. n) ms (ranges_inside s (inside around z (loop_range s around z)) (heads_of ms)) js) (sym head) (k.1, k.2) in
        let more = rest there.1 a.1 b.1 h.2 sink.1 there.4 in (
          subst (λ (v : List Direction). CommonValues (take (suc n) (ranges_inside s around (heads_of (l ∷ ls)))) v (take (suc n) (map (λ z. z.value) (i ∷ is))) (take (suc n) (map (λ z. z.value) (j ∷ js))))
              (sym there.2) (values_stand around l m i j there.0 a.0 b.0 head h.1 sink.0 there.3, more.0),
          more.1,
          subst (λ (z : Head). ValuesInRange (drop n (ranges_inside s (inside around z (loop_range s around z)) (heads_of ms))) (drop n (map (λ z. z.value) js))) head more.2,
        )

  pub common : (around : Around) (ls ms : List Loop) (is js : List Turn) (vector : List Direction) → AreTurns t o first ls is → AreTurns t o first ms js
      → AreIterations (λ n. n) ls (ranges_inside s around (heads_of ls)) is → AreIterations (λ n. n) ms (ranges_inside s around (heads_of ms)) js → StandInDirections t is js vector
      → Fit (length (common_nest ls ms)) (ranges_inside s around (heads_of ls)) (ranges_inside s around (heads_of ms)) vector (map (λ i. i.value) is) (map (λ i. i.value) js)
  common around [] ms [] js vector a b h k e = none_common [] ms [] (ranges_inside s around (heads_of ms)) [] js vector h k e
  common around [] ms (i ∷ is) js vector a b h k e = absurd a
  common around (l ∷ ls) ms [] js vector a b h k e = absurd a
  common around (l ∷ ls) [] (i ∷ is) [] vector a b h k e = none_common (l ∷ ls) [] (ranges_inside s around (heads_of (l ∷ ls))) [] (i ∷ is) [] vector h k e
  common around (l ∷ ls) [] (i ∷ is) (j ∷ js) vector a b h k e = absurd b
  common around (l ∷ ls) (m ∷ ms) (i ∷ is) [] vector a b h k e = absurd b
  common around (l ∷ ls) (m ∷ ms) (i ∷ is) (j ∷ js) vector a b h k e =
      one_more around l m ls ms i j is js vector a b h k (l.number == m.number) refl (common (inside around l.head (loop_range s around l.head)) ls ms is js)
      (subst (λ (z : Bool). MatchBool z (Here around l m ls ms i j is js vector) (vector ≡ [])) (λ n. a.0.statement n == b.0.statement n) e)
