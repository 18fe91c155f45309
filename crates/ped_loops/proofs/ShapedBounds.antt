-- Two loops with increments 1 whose bounds are plain, and the inner ones with shapes in the outer variable, have the same pairs of iterations in each other's place, in each execution.
use Rattle.ped_base.specs.Lists.{is_among}
use Rattle.ped_rules.proofs.NestLaws.LoopPairs as pairs
use Rattle.ped_rules.proofs.NestLaws.LoopPairs.{inner_at, old_entered, row_at, rows_are, scope_at, store_at}
use Rattle.ped_loops.proofs.MovedBounds.{HasPart, IsPlainThere, IsShaped, its_part, moved_built, shape_is, some_shape}
use Rattle.ped_rules.proofs.NestLaws.OnlyBodies.{pair}
use Rattle.ped_rules.proofs.NestLaws.PairOrders.{IsRegrouped}
use Rattle.ped_rules.proofs.NestLaws.SettledBounds.{ArePlaced, IsSettled, are_placed, fits, inner_fits, its_inner, next, one_result}
use Rattle.ped_loops.proofs.ShapedPairs.{Way, bound_by, from_above, from_below, moved_by, way_below, way_column, way_later, way_row, ways_bounded, ways_lie, ways_outer, ways_regrouped, ways_value, ways_within, when_falling, when_rising}
use Rattle.ped_loops.proofs.ShapedValues.{IsNearZero, IsSmall, IsWorth, all_joined, bound_near, greatest_worth, least_worth, limits_worth, near_bound, same_worth, small_joined}
use Rattle.ped_loops.proofs.ShapedWays.{falling_small, falling_worth, moved_worth, old_worth, rising_small, rising_worth, way, worth_there}
use Rattle.ped_rules.proofs.NestLaws.WovenLoops.{HasSwappedTrips}
use Rattle.ped_rules.proofs.HeadLaws.TurnedCounts.{div_one}
use Rattle.ped_loops.specs.Shapes.{Shape, asked_above, asked_below, asked_if, first_shape, is_turned, last_shape, new_inner, new_outer, shape_of}
use Rattle.ped_rules.specs.OnlyLoops.{change_only, only_loop}
use Rattle.ped_rules.specs.ped_loop_runs.specs.Bounds.{IsOfFixed}
use Rattle.ped_rules.specs.ped_loop_runs.specs.Executions.{IsExecuted}
use Rattle.ped_rules.specs.ped_bodies.proofs.BodyLaws.LimitParts.{limits_parted}
use Rattle.ped_rules.specs.ped_bodies.specs.Trips.{HasLimits, entered_from}
use Rattle.ped_rules.specs.ped_steps.proofs.RunLaws.LoopVariables.{variable_scalar}
use Rattle.ped_rules.specs.ped_steps.proofs.RunLaws.ScalarNames.{scalar_unvalued}
use Rattle.ped_rules.specs.ped_steps.specs.Replacing.{alone}
use Rattle.ped_rules.specs.ped_affine.specs.Ranges.{interval_of}
use Rattle.ped_rules.specs.ped_store.specs.Storage.{natural}
use Rattle.ped_rules.specs.ped_flow.specs.PlainBounds.{IsPlain, around_with, nest_round, setting_round}
use Rattle.ped_rules.specs.ped_flow.specs.Questions.{LoopOf}
use Rattle.ped_rules.specs.ped_laws.proofs.ActLaws.SameCells.{text_itself}
use Rattle.ped_rules.specs.ped_laws.specs.Acts.Orders.{IsIn}
use Rattle.ped_rules.specs.ped_laws.specs.Plain.Executions.{IsPlaceWith}
use Rattle.ped_rules.specs.ped_laws.specs.Runs.Replaying.{finish_of, goes_on}
use Rattle.ped_rules.specs.ped_eval.specs.Evaluation.{cell_seen}
use Rattle.ped_rules.specs.ped_eval.specs.Loops.{Entered, Limits, frame, increment, is_bound, iteration_count, limits, value_in}
use Rattle.ped_rules.specs.ped_eval.specs.Outcomes.{setting_of}
use Rattle.ped_rules.specs.ped_eval.specs.Runs.{run}
use Rattle.ped_rules.specs.ped_eval.specs.Scopes.{Names, Scope, Setting, index_value, names_in}
use Rattle.ped_rules.specs.ped_eval.specs.Values.{value}
use Rattle.ped_rules.specs.ped_store.specs.Acts.{Act}
use Rattle.ped_rules.specs.ped_store.specs.Cells.{Cell}
use Rattle.ped_rules.specs.ped_store.specs.Stores.{Content, Store, store_at_start}
use Rattle.ped_rules.specs.ped_symbols.specs.NameRefusals.{IsValid}
use Rattle.ped_tree.specs.Constants.NamedConstants.{value_named}
use Rattle.ped_tree.specs.Grammar.Fits.{expr_fits}
use Rattle.ped_tree.specs.Nests.{indices_of}
use Rattle.ped_tree.specs.Numbering.{statements_count}
use Rattle.ped_tree.specs.Tree.{Do, ExprTree, Head, ProgramTree, StmtTrees}
use Rattle.std.proofs.Common.{Bool, List, None, Ok, Some, [], ap, arith, false, if◌then◌else◌, pos, refl, subst, sym, true, ℕ, ℤ, ◌*ℤ◌, ◌++◌, ◌+ℤ◌, ◌+◌, ◌-ℤ◌, ◌-◌, ◌∙◌, ◌∷◌, ◌≡◌, ◌≤◌}
use Rattle.std.proofs.lemmas.Int.{clamps, ints}
use Rattle.std.specs.Int.{int_max, int_min}
use Rattle.std.specs.Prelude.{is_none, not, ◌≤ℤ◌}
use Rattle.std.specs.Str.Lines.{lines}

-- with the increment 1
count_by_one : (m1 m2 m3 : ℤ) → m3 ≡ pos 1 → iteration_count m1 m2 m3 ≡ natural (m2 -ℤ m1 +ℤ pos 1)
count_by_one m1 m2 m3 one = ap (iteration_count m1 m2) one ∙ ap natural (div_one (m2 -ℤ m1 +ℤ pos 1))

value_by_one : (m : ℤ) (n : ℕ) (step : ℤ) → step ≡ pos 1 → m +ℤ pos n *ℤ step ≡ m +ℤ pos n
value_by_one m n step one = ap (λ (z : ℤ). m +ℤ pos n *ℤ z) one ∙ same
  where
    same : m +ℤ pos n *ℤ pos 1 ≡ m +ℤ pos n
    same = omega (arith, ints)

near_small : (n : ℤ) → IsNearZero n → IsSmall n
near_small n near = record { from = omega (arith, ints, near.from); to = omega (arith, ints, near.to) }

near_between : (m n y : ℤ) → IsNearZero m → IsNearZero n → m ≤ℤ y → y ≤ℤ n → IsNearZero y
near_between m n y low high from to = record { from = omega (arith, ints, low.from, from); to = omega (arith, ints, high.to, to) }

near_greatest : (m n y : ℤ) → IsNearZero m → IsNearZero n → m ≤ℤ y → y ≤ℤ int_max m n → IsNearZero y
near_greatest m n y low high from to = record { from = omega (arith, ints, low.from, from); to = omega (arith, ints, clamps, low.to, high.to, to) }

near_least : (m n y : ℤ) → IsNearZero m → IsNearZero n → int_min m n ≤ℤ y → y ≤ℤ n → IsNearZero y
near_least m n y low high from to = record { from = omega (arith, ints, clamps, low.from, high.from, from); to = omega (arith, ints, high.to, to) }

module _ (t : ProgramTree) (valid : IsValid t) (l : ℕ) (loop : LoopOf t l) (g : Head) (inside : StmtTrees) (only : only_loop loop.body ≡ Some (pair g inside))
    (serial : loop.head.parallel ≡ false) (private : loop.head.private ≡ []) (inner_serial : g.parallel ≡ false) (inner_private : g.private ≡ [])
    (plain_first : IsPlain (setting_of t).constants t l loop.head.first) (plain_last : IsPlain (setting_of t).constants t l loop.head.last) (plain_inner_first : IsPlain (setting_of t).constants t (l + 1) g.first) (plain_inner_last : IsPlain (setting_of t).constants t (l + 1) g.last)
    (some_first : is_none (shape_of loop.head.variable g.first) ≡ false) (some_last : is_none (shape_of loop.head.variable g.last) ≡ false)
    (step : increment (setting_of t).constants loop.head ≡ pos 1) (inner_step : increment (setting_of t).constants g ≡ pos 1)
    (near_first : interval_of (setting_round (setting_of t).constants t l) (around_with (setting_round (setting_of t).constants t l) [] (nest_round t l)) (new_outer loop.head g).first ≡ None → ⊥)
    (near_last : interval_of (setting_round (setting_of t).constants t l) (around_with (setting_round (setting_of t).constants t l) [] (nest_round t l)) (new_outer loop.head g).last ≡ None → ⊥)
    (apart : is_among loop.head.variable (indices_of (nest_round t l)) ≡ false) (inner_apart : is_among g.variable (indices_of (nest_round t l)) ≡ false)
    (data_bytes : List ℕ) (scope : Scope) (front behind : List Act) (s : Store)
    (executed : IsExecuted (setting_of t) t (store_at_start (lines data_bytes)) l (statements_count (alone (Do loop.head loop.body))) scope front (run (setting_of t) (Do loop.head loop.body) l scope s).acts behind s)
    (goes : finish_of (run (setting_of t) (Do loop.head loop.body) l scope s).ending ≡ goes_on) where
  abbrev p : Setting
  p = setting_of t

  abbrev d : Head
  d = loop.head

  abbrev h : Head
  h = new_outer loop.head g

  abbrev k : Head
  k = new_inner loop.head g

  abbrev x : List ℕ
  x = loop.head.variable

  abbrev y : List ℕ
  y = g.variable

  abbrev new_body : StmtTrees
  new_body = change_only (λ f z. Do (new_inner loop.head g) z) loop.body

  abbrev Fixed : Cell → Type 0
  Fixed c = IsOfFixed (setting_of t).constants t l c

  placed : ArePlaced t l loop g inside only scope s goes
  placed = are_placed t valid l loop g inside only serial private apart inner_apart data_bytes scope front behind s executed goes

  settle : (e : ExprTree) → IsPlainThere (setting_of t).constants t l e → IsSettled t l placed.told placed.first e
  settle e there = placed.settled e there.plain there.fits

  -- the shapes, and what they tell
  abbrev first_one : Shape
  first_one = first_shape loop.head g

  abbrev last_one : Shape
  last_one = last_shape loop.head g

  first_is : IsShaped loop.head.variable g.first (first_shape loop.head g)
  first_is = shape_is loop.head.variable g.first (first_shape loop.head g) (some_shape loop.head.variable g.first some_first)

  last_is : IsShaped loop.head.variable g.last (last_shape loop.head g)
  last_is = shape_is loop.head.variable g.last (last_shape loop.head g) (some_shape loop.head.variable g.last some_last)

  old_fits : (expr_fits loop.head.first ≡ true) × (expr_fits loop.head.last ≡ true)
  old_fits = fits t valid l loop g inside only serial private apart inner_apart

  old_inner_fits : (expr_fits g.first ≡ true) × (expr_fits g.last ≡ true)
  old_inner_fits = inner_fits t valid l loop g inside only serial private apart inner_apart

  unvalued : value_named (setting_of t).constants loop.head.variable ≡ None
  unvalued = scalar_unvalued t loop.head.variable (variable_scalar t valid l loop)

  inner_unvalued : value_named (setting_of t).constants g.variable ≡ None
  inner_unvalued = scalar_unvalued t g.variable (variable_scalar t valid (l + 1) (record { head = g; body = inside; is = its_inner t valid l loop g inside only serial private apart inner_apart }))

  first_part : HasPart (setting_of t).constants t l (first_shape loop.head g) g.first
  first_part = its_part (setting_of t).constants t l loop (next t valid l loop g inside only serial private apart inner_apart) unvalued g.first (first_shape loop.head g) first_is plain_inner_first old_inner_fits.0

  last_part : HasPart (setting_of t).constants t l (last_shape loop.head g) g.last
  last_part = its_part (setting_of t).constants t l loop (next t valid l loop g inside only serial private apart inner_apart) unvalued g.last (last_shape loop.head g) last_is plain_inner_last old_inner_fits.1

  abbrev first_way : Way
  first_way = way t l placed.told placed.first settle (first_shape loop.head g) g.first first_part

  abbrev last_way : Way
  last_way = way t l placed.told placed.first settle (last_shape loop.head g) g.last last_part

  -- the old loops
  abbrev e0 : Entered
  e0 = old_entered (setting_of t) loop.head g loop.body inside only l scope s goes

  abbrev scope_old : ℕ → Scope
  scope_old i = scope_at (setting_of t) loop.head g loop.body inside only l scope s goes i

  abbrev store_old : ℕ → Store
  store_old i = store_at (setting_of t) loop.head g loop.body inside only l scope s goes i

  abbrev in_old : ℕ → Entered
  in_old i = inner_at (setting_of t) loop.head g loop.body inside only l scope s goes i

  abbrev row : ℕ → Limits
  row i = (row_at (setting_of t) loop.head g loop.body inside only l scope s goes i).bounds

  abbrev e1 : ℤ
  e1 = (pairs.outer (setting_of t) loop.head g loop.body inside only l scope s goes).bounds.first

  abbrev e2 : ℤ
  e2 = (pairs.outer (setting_of t) loop.head g loop.body inside only l scope s goes).bounds.last

  has : HasLimits (names_in p scope) d s (record { first = e1; last = e2 })
  has = limits_parted (names_in p scope) d s (record { first = e1; last = e2 }) (pairs.outer (setting_of t) loop.head g loop.body inside only l scope s goes).come

  near_e1 : IsNearZero e1
  near_e1 = bound_near e1 has.first_bound

  near_e2 : IsNearZero e2
  near_e2 = bound_near e2 has.last_bound

  outer_first : IsSettled t l placed.told placed.first loop.head.first
  outer_first = placed.settled loop.head.first plain_first old_fits.0

  outer_last : IsSettled t l placed.told placed.first loop.head.last
  outer_last = placed.settled loop.head.last plain_last old_fits.1

  first_worth : (around : Scope) → IsPlaceWith (setting_of t).constants t l placed.told around → IsWorth (names_in p around) s Fixed d.first e1
  first_worth around place =
      same_worth (names_in p around) s Fixed d.first outer_first.worth.worth e1 (one_result (value (names_in p scope) d.first s).result outer_first.worth.worth e1 (outer_first.worth.comes scope placed.here s placed.during) has.first)
      (worth_there t l placed.told placed.first settle around s place placed.during d.first outer_first)

  last_worth : (around : Scope) → IsPlaceWith (setting_of t).constants t l placed.told around → IsWorth (names_in p around) s Fixed d.last e2
  last_worth around place =
      same_worth (names_in p around) s Fixed d.last outer_last.worth.worth e2 (one_result (value (names_in p scope) d.last s).result outer_last.worth.worth e2 (outer_last.worth.comes scope placed.here s placed.during) has.last)
      (worth_there t l placed.told placed.first settle around s place placed.during d.last outer_last)

  -- the new outer bounds
  abbrev low : ℤ
  low = moved_by first_way e1 e2

  abbrev high : ℤ
  high = moved_by last_way e2 e1

  low_worth : IsWorth (names_in p scope) s Fixed h.first low
  low_worth = moved_worth t l placed.told placed.first settle scope s placed.here placed.during (first_shape loop.head g) g.first first_part d.first d.last e1 e2 (first_worth scope placed.here) (last_worth scope placed.here) near_e1 near_e2

  high_worth : IsWorth (names_in p scope) s Fixed h.last high
  high_worth = moved_worth t l placed.told placed.first settle scope s placed.here placed.during (last_shape loop.head g) g.last last_part d.last d.first e2 e1 (last_worth scope placed.here) (first_worth scope placed.here) near_e2 near_e1

  low_settled : IsSettled t l placed.told placed.first h.first
  low_settled =
      let built = moved_built (setting_of t).constants t l (first_shape loop.head g) g.first d.first d.last first_part (plain_first.built, old_fits.0) (plain_last.built, old_fits.1) in
      placed.settled h.first (record { built = built.0; near = near_first }) built.1

  high_settled : IsSettled t l placed.told placed.first h.last
  high_settled =
      let built = moved_built (setting_of t).constants t l (last_shape loop.head g) g.last d.last d.first last_part (plain_last.built, old_fits.1) (plain_first.built, old_fits.0) in
      placed.settled h.last (record { built = built.0; near = near_last }) built.1

  low_bound : is_bound low ≡ true
  low_bound = ap is_bound (one_result (value (names_in p scope) h.first s).result low low_settled.worth.worth low_worth.comes (low_settled.worth.comes scope placed.here s placed.during)) ∙ low_settled.worth.bound

  high_bound : is_bound high ≡ true
  high_bound = ap is_bound (one_result (value (names_in p scope) h.last s).result high high_settled.worth.worth high_worth.comes (high_settled.worth.comes scope placed.here s placed.during)) ∙ high_settled.worth.bound

  outer_limits : ((limits (names_in p scope) h s).result ≡ Ok (record { first = low; last = high })) × ((c : Cell) (v : Content) → IsIn (cell_seen c v) (limits (names_in p scope) h s).seen → Fixed c)
  outer_limits = limits_worth (names_in p scope) s Fixed h low high low_worth low_bound high_worth high_bound

  -- the new loops
  abbrev z0 : Entered
  z0 = entered_from (setting_of t) h new_body l scope s (record { first = low; last = high })

  abbrev scope_new : ℕ → Scope
  scope_new a = frame z0 a ∷ scope

  place_new : (a : ℕ) → IsPlaceWith (setting_of t).constants t l placed.told (scope_new a)
  place_new a = placed.new_place h new_body refl inner_serial inner_private (record { first = low; last = high }) a

  tells_new : (a : ℕ) → index_value (scope_new a) y ≡ Some (value_in z0 a)
  tells_new a = ap (λ (b : Bool). if b then Some (value_in z0 a) else index_value scope y) (text_itself y)

  new_value : (a : ℕ) → value_in z0 a ≡ low +ℤ pos (a - 1)
  new_value a = value_by_one low (a - 1) (increment p.constants g) inner_step

  old_count : e0.count ≡ natural (e2 -ℤ e1 +ℤ pos 1)
  old_count = count_by_one e1 e2 (increment p.constants d) step

  new_count : z0.count ≡ natural (high -ℤ low +ℤ pos 1)
  new_count = count_by_one low high (increment p.constants g) inner_step

  lies : (a : ℕ) → 1 ≤ a → a ≤ z0.count → (low ≤ℤ value_in z0 a) × (value_in z0 a ≤ℤ high)
  lies a from to =
      let there = ways_lie first_way last_way e1 e2 a from (subst (λ (n : ℕ). a ≤ n) new_count to) in
      (subst (λ (n : ℤ). low ≤ℤ n) (sym (new_value a)) there.0, subst (λ (n : ℤ). n ≤ℤ high) (sym (new_value a)) there.1)

  near_new : (a : ℕ) → 1 ≤ a → a ≤ z0.count → IsNearZero (value_in z0 a)
  near_new a from to = let there = lies a from to in near_between low high (value_in z0 a) (bound_near low low_bound) (bound_near high high_bound) there.0 there.1

  -- the new inner bounds
  abbrev from_first : ℕ → ℤ
  from_first a = from_below first_way last_way e1 (value_in z0 a)

  abbrev to_last : ℕ → ℤ
  to_last a = from_above first_way last_way e2 (value_in z0 a)

  module _ (a : ℕ) (from : 1 ≤ a) (to : a ≤ z0.count) where
    abbrev n : Names
    n = names_in p (scope_new a)

    from_worth : IsWorth (names_in p (scope_new a)) s Fixed k.first (from_first a)
    from_worth =
        greatest_worth n s Fixed d.first (asked_below (first_shape loop.head g) (last_shape loop.head g) y) e1 (when_falling first_way (value_in z0 a) ++ when_rising last_way (value_in z0 a)) (first_worth (scope_new a) (place_new a))
        (all_joined n s Fixed (asked_if (is_turned (first_shape loop.head g)) (first_shape loop.head g) y) (asked_if (not (is_turned (last_shape loop.head g))) (last_shape loop.head g) y) (when_falling first_way (value_in z0 a)) (when_rising last_way (value_in z0 a))
        (falling_worth t l placed.told placed.first settle (scope_new a) s (place_new a) placed.during y inner_unvalued (value_in z0 a) (tells_new a) (near_new a from to) (first_shape loop.head g) g.first first_part)
        (rising_worth t l placed.told placed.first settle (scope_new a) s (place_new a) placed.during y inner_unvalued (value_in z0 a) (tells_new a) (near_new a from to) (last_shape loop.head g) g.last last_part))
        (near_small e1 near_e1)
        (small_joined (when_falling first_way (value_in z0 a)) (when_rising last_way (value_in z0 a))
        (falling_small t l placed.told placed.first settle (scope_new a) s (place_new a) placed.during y inner_unvalued (value_in z0 a) (tells_new a) (near_new a from to) (first_shape loop.head g) g.first first_part)
        (rising_small t l placed.told placed.first settle (scope_new a) s (place_new a) placed.during y inner_unvalued (value_in z0 a) (tells_new a) (near_new a from to) (last_shape loop.head g) g.last last_part))

    to_worth : IsWorth (names_in p (scope_new a)) s Fixed k.last (to_last a)
    to_worth =
        least_worth n s Fixed d.last (asked_above (first_shape loop.head g) (last_shape loop.head g) y) e2 (when_rising first_way (value_in z0 a) ++ when_falling last_way (value_in z0 a)) (last_worth (scope_new a) (place_new a))
        (all_joined n s Fixed (asked_if (not (is_turned (first_shape loop.head g))) (first_shape loop.head g) y) (asked_if (is_turned (last_shape loop.head g)) (last_shape loop.head g) y) (when_rising first_way (value_in z0 a)) (when_falling last_way (value_in z0 a))
        (rising_worth t l placed.told placed.first settle (scope_new a) s (place_new a) placed.during y inner_unvalued (value_in z0 a) (tells_new a) (near_new a from to) (first_shape loop.head g) g.first first_part)
        (falling_worth t l placed.told placed.first settle (scope_new a) s (place_new a) placed.during y inner_unvalued (value_in z0 a) (tells_new a) (near_new a from to) (last_shape loop.head g) g.last last_part))
        (near_small e2 near_e2)
        (small_joined (when_rising first_way (value_in z0 a)) (when_falling last_way (value_in z0 a))
        (rising_small t l placed.told placed.first settle (scope_new a) s (place_new a) placed.during y inner_unvalued (value_in z0 a) (tells_new a) (near_new a from to) (first_shape loop.head g) g.first first_part)
        (falling_small t l placed.told placed.first settle (scope_new a) s (place_new a) placed.during y inner_unvalued (value_in z0 a) (tells_new a) (near_new a from to) (last_shape loop.head g) g.last last_part))

    inner_limits : ((limits (names_in p (scope_new a)) k s).result ≡ Ok (record { first = from_first a; last = to_last a })) × ((c : Cell) (v : Content) → IsIn (cell_seen c v) (limits (names_in p (scope_new a)) k s).seen → Fixed c)
    inner_limits =
        let there = lies a from to in
        let within = ways_within first_way last_way e1 e2 (value_in z0 a) in
        let bounded = ways_bounded first_way last_way e1 e2 (value_in z0 a) there.0 there.1 in
        limits_worth n s Fixed k (from_first a) (to_last a) from_worth (near_bound (from_first a) (near_greatest e1 e2 (from_first a) near_e1 near_e2 within.0 bounded.0))
        to_worth (near_bound (to_last a) (near_least e1 e2 (to_last a) near_e1 near_e2 bounded.1 within.1))

  -- the old inner bounds
  tells_old : (i : ℕ) → index_value (scope_old i) x ≡ Some (value_in e0 i)
  tells_old i = ap (λ (b : Bool). if b then Some (value_in e0 i) else index_value scope x) (text_itself x)

  old_value : (i : ℕ) → value_in e0 i ≡ e1 +ℤ pos (i - 1)
  old_value i = value_by_one e1 (i - 1) (increment p.constants d) step

  row_has : (i : ℕ) → 1 ≤ i → i ≤ e0.count → HasLimits (names_in p (scope_old i)) g (store_old i) (row i)
  row_has i from to = limits_parted (names_in p (scope_old i)) g (store_old i) (row i) (rows_are (setting_of t) loop.head g loop.body inside only l scope s goes i from to).come

  row_first : (i : ℕ) → 1 ≤ i → i ≤ e0.count → (row i).first ≡ bound_by first_way (e1 +ℤ pos (i - 1))
  row_first i from to =
      old_worth t l placed.told placed.first settle (scope_old i) (store_old i) (placed.old_place i) (placed.rows_during i from to) x unvalued (value_in e0 i) (tells_old i) (first_shape loop.head g) g.first first_part first_is (row i).first (row_has i from to).first
      ∙ ap (bound_by first_way) (old_value i)

  row_last : (i : ℕ) → 1 ≤ i → i ≤ e0.count → (row i).last ≡ bound_by last_way (e1 +ℤ pos (i - 1))
  row_last i from to =
      old_worth t l placed.told placed.first settle (scope_old i) (store_old i) (placed.old_place i) (placed.rows_during i from to) x unvalued (value_in e0 i) (tells_old i) (last_shape loop.head g) g.last last_part last_is (row i).last (row_has i from to).last
      ∙ ap (bound_by last_way) (old_value i)

  row_count : (i : ℕ) → 1 ≤ i → i ≤ e0.count → (in_old i).count ≡ way_row first_way last_way e1 e2 i
  row_count i from to = count_by_one (row i).first (row i).last (increment p.constants g) inner_step ∙ (λ q. natural (row_last i from to q -ℤ row_first i from to q +ℤ pos 1))

  abbrev in_new : ℕ → Entered
  in_new a = entered_from (setting_of t) k inside (l + 1) (scope_new a) s (record { first = from_first a; last = to_last a })

  column_count : (a : ℕ) → (in_new a).count ≡ way_column first_way last_way e1 e2 a
  column_count a =
      count_by_one (from_first a) (to_last a) (increment p.constants d) step
      ∙ ap (λ (n : ℤ). natural (from_above first_way last_way e2 n -ℤ from_below first_way last_way e1 n +ℤ pos 1)) (new_value a)

  abbrev later : ℕ → ℕ
  later = way_later first_way last_way e1 e2

  abbrev below : ℕ → ℕ
  below = way_below first_way last_way e1 e2

  ways : IsRegrouped (natural (e2 -ℤ e1 +ℤ pos 1)) (natural (high -ℤ low +ℤ pos 1)) (way_row first_way last_way e1 e2) (way_column first_way last_way e1 e2) later below
  ways = ways_regrouped first_way last_way e1 e2

  among_old : (i : ℕ) → i ≤ e0.count → i ≤ natural (e2 -ℤ e1 +ℤ pos 1)
  among_old i to = subst (λ (n : ℕ). i ≤ n) old_count to

  among_new : (a : ℕ) → a ≤ z0.count → a ≤ natural (high -ℤ low +ℤ pos 1)
  among_new a to = subst (λ (n : ℕ). a ≤ n) new_count to

  regrouped : IsRegrouped e0.count z0.count (λ i. (in_old i).count) (λ a. (in_new a).count) later below
  regrouped = record {
    forth = λ i j from to first_j last_j.
        let r = ways.forth i j from (among_old i to) first_j (subst (λ (n : ℕ). j ≤ n) (row_count i from to) last_j) in
        (subst (λ (n : ℕ). later i + j ≤ n) (sym new_count) r.0, r.1, subst (λ (n : ℕ). i ≤ below (later i + j) + n) (sym (column_count (later i + j))) r.2);
    back = λ a b from to first_b last_b.
        let r = ways.back a b from (among_new a to) first_b (subst (λ (n : ℕ). b ≤ n) (column_count a) last_b) in
        let there : below a + b ≤ e0.count = subst (λ (n : ℕ). below a + b ≤ n) (sym old_count) r.0 in
        (there, r.1, subst (λ (n : ℕ). a ≤ later (below a + b) + n) (sym (row_count (below a + b) (omega (arith, first_b)) there)) r.2);
  }

  pub shaped_trips : HasSwappedTrips t l loop.head g (new_outer loop.head g) (new_inner loop.head g) loop.body inside only scope s goes
  shaped_trips = record {
    bounds = record { first = low; last = high };
    come = outer_limits.0;
    inner_bounds = λ a. record { first = from_first a; last = to_last a };
    inner_come = λ a from to. (inner_limits a from to).0;
    fixed = outer_limits.1;
    inner_fixed = λ a from to. (inner_limits a from to).1;
    later = later;
    below = below;
    grouped = regrouped;
    values = λ i j from to first_j last_j.
        new_value (later i + j) ∙ ways_value first_way last_way e1 e2 i j from (among_old i to) first_j
        ∙ sym ((λ q. row_first i from to q +ℤ pos (j - 1) *ℤ increment p.constants g) ∙ value_by_one (bound_by first_way (e1 +ℤ pos (i - 1))) (j - 1) (increment p.constants g) inner_step);
    inner_values = λ a b from to first_b last_b.
        value_by_one (from_first a) (b - 1) (increment p.constants d) step
        ∙ ap (λ (n : ℤ). from_below first_way last_way e1 n +ℤ pos (b - 1)) (new_value a)
        ∙ ways_outer first_way last_way e1 e2 a b from (among_new a to) first_b
        ∙ sym (old_value (below a + b));
  }
