-- Iterations stand in the directions in which their numbers stand.
use Rattle.std.proofs.Common.{◌≡◌, ℕ, ◌-◌, ◌<◌, ◌≤◌, ◌==◌, List, [], ◌∷◌, length, Bool, true, false, not, refl, sym, ap, ◌∙◌, subst, inl, inr, arith, ℤ, pos, negsuc, neg_ℤ, ◌+ℤ◌, ◌-ℤ◌, ◌*ℤ◌, ◌<ℤ◌, ◌≤ℤ◌, Option, Some, None, if◌then◌else◌, unwrap_or, int_eq}
use Rattle.std.specs.Bool.{MatchBool}
use Rattle.std.proofs.Math.IntN.{*ℤ_comm}
use Rattle.std.proofs.lemmas.Bool.{and_parts, eqb-true}
use Rattle.std.proofs.lemmas.Int.{ints, by_lt_z}
use Rattle.ped_laws.specs.ped_flow.specs.ped_base.specs.Lists.{has_some}
use Rattle.ped_laws.specs.ped_graph.specs.ped_views.specs.declared.directions.Direction.{Direction}
use Rattle.ped_laws.specs.ped_graph.specs.ped_views.specs.declared.directions.Direction.TheVariants.{Before, Same, After}
use Rattle.ped_laws.specs.ped_graph.specs.ped_views.specs.Excluded.{StandsByValue, by_value}
use Rattle.ped_laws.specs.ped_graph.specs.ped_views.proofs.Products.{linear, mul-sub, mul-le, neg-mul}
use Rattle.ped_laws.specs.ped_flow.specs.ped_tree.specs.Tree.{Head, StmtTrees, Do, ProgramTree}
use Rattle.ped_laws.specs.ped_flow.specs.ped_tree.specs.Nests.{Loop, common_nest}
use Rattle.ped_laws.specs.ped_flow.specs.ped_tree.specs.Numbering.{statement_with}
use Rattle.ped_laws.specs.ped_flow.specs.ped_tree.specs.Constants.ConstantExpressions.{constant_value}
use Rattle.ped_laws.specs.ped_flow.specs.PlainBounds.{Values}
use Rattle.ped_laws.specs.ped_flow.specs.ped_affine.specs.Ranges.{step_by}
use Rattle.ped_laws.specs.ped_graph.specs.ped_refs.specs.References.{Reference, references}
use Rattle.ped_laws.specs.ped_graph.specs.ped_symbols.specs.NameRefusals.{IsValid}
use Rattle.ped_laws.specs.ped_graph.specs.ped_symbols.specs.RightUses.RightLoops.{is_small, is_step}
use Rattle.ped_laws.specs.ped_eval.specs.ped_store.specs.Acts.{Turn}
use Rattle.ped_laws.specs.ped_eval.specs.Loops.{increment}
use Rattle.ped_laws.specs.ped_eval.specs.Outcomes.{setting_of}
use Rattle.ped_laws.specs.Acts.Orders.{IsIn}
use Rattle.ped_laws.specs.Conflicts.Directions.{step_in, step_at, StandInDirections, share_a_loop}
use Rattle.ped_laws.proofs.ActLaws.Lists.{split_at}
use Rattle.ped_laws.proofs.ConflictLaws.CoveringCells.{head_is}
use Rattle.ped_laws.proofs.ConflictLaws.CoveringCarriage.{Here}
use Rattle.ped_rows.proofs.Trips.{AreTrips, trip_value, turns_at, NumberStands, NumbersStand}
use Rattle.ped_rows.proofs.FirmPairs.{IsFirmPair}
use Rattle.ped_rows.proofs.MeetingLaws.LoopsRound.{loops_nested}
use Rattle.ped_rows.proofs.MeetingLaws.FineStatements.{step_right}
use Rattle.ped_rows.proofs.MeetingLaws.Meeting.{are_paired}

mul_one : (a : ℤ) → a *ℤ pos 1 ≡ a
mul_one a = omega (arith, ints)

one_apart : (m n : ℕ) → m < n → pos 1 ≤ℤ (pos n -ℤ pos m)
one_apart m n h = omega (arith, ints)

upwards : (initial step : ℤ) (m n : ℕ) → m < n → pos 0 <ℤ step → (initial +ℤ pos m *ℤ step) <ℤ (initial +ℤ pos n *ℤ step)
upwards initial step m n h k =
    let less = mul-le step (pos 1) (pos n -ℤ pos m) (omega (arith, linear)) (one_apart m n h) in
    let one = mul_one step in
    let parts = mul-sub step (pos n) (pos m) in
    let first = *ℤ_comm step (pos m) in
    let second = *ℤ_comm step (pos n) in
    omega (arith, linear)

downwards : (initial step : ℤ) (m n : ℕ) → m < n → step <ℤ pos 0 → (initial +ℤ pos n *ℤ step) <ℤ (initial +ℤ pos m *ℤ step)
downwards initial step m n h k =
    let less = mul-le (neg_ℤ step) (pos 1) (pos n -ℤ pos m) (omega (arith, linear)) (one_apart m n h) in
    let one = mul_one (neg_ℤ step) in
    let parts = mul-sub (neg_ℤ step) (pos n) (pos m) in
    let e = neg-mul step (pos n) in
    let f = neg-mul step (pos m) in
    let first = *ℤ_comm step (pos m) in
    let second = *ℤ_comm step (pos n) in
    omega (arith, linear)

pos_above : (n : ℕ) → ¬ (pos n ≡ pos 0) → pos 0 <ℤ pos n
pos_above n h = by_lt_z (pos 0) (pos n) (λ k. k) (λ k. absurd (h (omega (arith, ints))))

neg_below : (n : ℕ) → negsuc n <ℤ pos 0
neg_below n = omega (arith, ints)

less_before : (i j : ℕ) → 1 ≤ i → i < j → i - 1 < j - 1
less_before i j h k = omega (arith, h, k)

-- the values of two iterations of a DO stand in the direction in which their numbers stand, whatever the sign of the step
values_stand : (d : Direction) (i j : ℕ) (initial step : ℤ) → 1 ≤ i → 1 ≤ j → ¬ (step ≡ pos 0) → NumberStands d i j → StandsByValue (by_value step d) (initial +ℤ pos (i - 1) *ℤ step) (initial +ℤ pos (j - 1) *ℤ step)
values_stand Before i j initial (pos n) a b some h = upwards initial (pos n) (i - 1) (j - 1) (less_before i j a h) (pos_above n some)
values_stand Before i j initial (negsuc n) a b some h = downwards initial (negsuc n) (i - 1) (j - 1) (less_before i j a h) (neg_below n)
values_stand Same i j initial (pos n) a b some h = ap (λ (k : ℕ). initial +ℤ pos (k - 1) *ℤ pos n) h
values_stand Same i j initial (negsuc n) a b some h = ap (λ (k : ℕ). initial +ℤ pos (k - 1) *ℤ negsuc n) h
values_stand After i j initial (pos n) a b some h = upwards initial (pos n) (j - 1) (i - 1) (less_before j i b h) (pos_above n some)
values_stand After i j initial (negsuc n) a b some h = downwards initial (negsuc n) (j - 1) (i - 1) (less_before j i b h) (neg_below n)

-- an increment that has a right value counts with it, and isn't 0
step_same : (c : Option ℤ) → is_step c ≡ true → step_by c ≡ unwrap_or c (pos 1)
step_same None h = refl
step_same (Some n) h = ap (λ (b : Bool). if b then n else pos 1) h

step_some : (c : Option ℤ) → is_step c ≡ true → ¬ (unwrap_or c (pos 1) ≡ pos 0)
step_some None h e = absurd cc
step_some (Some n) h e = is n e (and_parts (not (int_eq n (pos 0))) (is_small n) h).0
  where
    zero_fails : not (int_eq (pos 0) (pos 0)) ≡ true → ⊥
    zero_fails t = absurd cc

    is : (n : ℤ) → n ≡ pos 0 → not (int_eq n (pos 0)) ≡ true → ⊥
    is n q h = zero_fails (subst (λ (x : ℤ). not (int_eq x (pos 0)) ≡ true) q h)

none_long : (vector : List Direction) → length vector ≡ 0 → vector ≡ []
none_long [] h = refl
none_long (d ∷ ds) h = absurd (omega (arith, h))

module _ (t : ProgramTree) (valid : IsValid t) where
  abbrev c : Values
  c = (setting_of t).constants

  -- these are loops of the program
  abbrev AreLoops : List Loop → Type 0
  AreLoops ls = (l : Loop) → IsIn l ls → (body : StmtTrees) × (statement_with l.number t ≡ Some (Do l.head body))

  abbrev at : Loop → ℕ → Turn
  at l k = record { statement = l.number; parallel = l.head.parallel; number = k; value = trip_value c l.head k }

  one_stands : (l m : Loop) (d : Direction) (i j : ℕ) → (body other : StmtTrees) → statement_with l.number t ≡ Some (Do l.head body) → statement_with m.number t ≡ Some (Do m.head other) → l.number ≡ m.number → 1 ≤ i → 1 ≤ j → NumberStands d i j
      → StandsByValue (by_value (step_at t l.number) d) (trip_value c l.head i) (trip_value c m.head j)
  one_stands l m d i j body other is_first is_second same from to h =
      let head : l.head ≡ m.head = head_is l.head m.head body other (sym is_first ∙ ap (λ (n : ℕ). statement_with n t) same ∙ is_second) in
      let right = step_right t l.number l.head body valid is_first in
      let step : step_at t l.number ≡ increment c l.head = ap (step_in c) is_first ∙ step_same (constant_value c l.head.step) right in
      subst (λ (s : ℤ). StandsByValue (by_value s d) (trip_value c l.head i) (trip_value c m.head j)) (sym step)
      (subst (λ (g : Head). StandsByValue (by_value (increment c l.head) d) (trip_value c l.head i) (trip_value c g j)) head
      (values_stand d i j (unwrap_or (constant_value c l.head.first) (pos 0)) (increment c l.head) from to (step_some (constant_value c l.head.step) right) h))

  stand : (ls ms : List Loop) (is js : List ℕ) (vector : List Direction) → AreLoops ls → AreLoops ms → length vector ≡ length (common_nest ls ms) → AreTrips c ls is → AreTrips c ms js → NumbersStand vector is js → StandInDirections t (turns_at c ls is) (turns_at c ms js) vector
  stand [] ms is js vector of_first of_second long h k n = none_long vector long
  stand (l ∷ ls) ms [] js vector of_first of_second long h k n = absurd h
  stand (l ∷ ls) [] (i ∷ is) js vector of_first of_second long h k n = none_long vector long
  stand (l ∷ ls) (m ∷ ms) (i ∷ is) [] vector of_first of_second long h k n = absurd k
  stand (l ∷ ls) (m ∷ ms) (i ∷ is) (j ∷ js) vector of_first of_second long h k n = go (l.number == m.number) refl vector long n (λ ds. stand ls ms is js ds (λ x q. of_first x (inr q)) (λ x q. of_second x (inr q)))
    where
      go : (b : Bool) → (l.number == m.number) ≡ b → (v : List Direction) → length v ≡ length (if b then l ∷ common_nest ls ms else []) → NumbersStand v (i ∷ is) (j ∷ js)
          → ((ds : List Direction) → length ds ≡ length (common_nest ls ms) → AreTrips c ls is → AreTrips c ms js → NumbersStand ds is js → StandInDirections t (turns_at c ls is) (turns_at c ms js) ds)
          → MatchBool b (Here t (at l i) (at m j) (turns_at c ls is) (turns_at c ms js) v) (v ≡ [])
      go false e v long n more = none_long v long
      go true e [] long n more = absurd (omega (arith, long))
      go true e (d ∷ ds) long n more =
          let first = of_first l (inl refl) in
          let second = of_second m (inl refl) in
          (d, ds, refl, one_stands l m d i j first.0 second.0 first.1 second.1 (eqb-true l.number m.number e) h.0.from k.0.from n.0, more ds (omega (arith, long)) h.1 k.1 n.1)

  share : (ls ms : List Loop) (is js : List ℕ) → has_some (common_nest ls ms) ≡ true → AreTrips c ls is → AreTrips c ms js → share_a_loop (turns_at c ls is) (turns_at c ms js) ≡ true
  share [] ms is js some h k = absurd cc
  share (l ∷ ls) [] is js some h k = absurd cc
  share (l ∷ ls) (m ∷ ms) [] js some h k = absurd h
  share (l ∷ ls) (m ∷ ms) (i ∷ is) [] some h k = absurd k
  share (l ∷ ls) (m ∷ ms) (i ∷ is) (j ∷ js) some h k = go (l.number == m.number) some
    where
      go : (b : Bool) → has_some (if b then l ∷ common_nest ls ms else []) ≡ true → b ≡ true
      go true e = refl
      go false e = absurd cc

  loops_of : (r : Reference) → IsIn r (references t) → AreLoops r.nest
  loops_of r listed l i =
      let s = split_at l r.nest i in
      let round = (loops_nested t r listed s.0 l s.1 s.2).0 in
      (round.body, round.stands)

-- iterations of the loops round the references of a proven dependence stand in the directions of their numbers, in one execution of the outermost loop round both
pub trips_stand : (t : ProgramTree) (source sink : Reference) (vector : List Direction) (is js : List ℕ) → IsValid t → IsFirmPair t source sink vector
    → AreTrips (setting_of t).constants source.nest is → AreTrips (setting_of t).constants sink.nest js → NumbersStand vector is js
    → StandInDirections t (turns_at (setting_of t).constants source.nest is) (turns_at (setting_of t).constants sink.nest js) vector
    × (share_a_loop (turns_at (setting_of t).constants source.nest is) (turns_at (setting_of t).constants sink.nest js) ≡ true)
trips_stand t source sink vector is js valid firm source_trips sink_trips numbers = (
  stand t valid source.nest sink.nest is js vector (loops_of t valid source firm.source_listed) (loops_of t valid sink firm.sink_listed) firm.long source_trips sink_trips numbers,
  share t valid source.nest sink.nest is js (are_paired source sink firm.paired).common source_trips sink_trips,
)
