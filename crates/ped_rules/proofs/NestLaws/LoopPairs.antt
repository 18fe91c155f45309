-- A DO whose body is one DO, taken apart into what that one's body does in each pair of iterations, and put together from it.
use Rattle.std.proofs.Common.{Bool, List, Ok, Some, [], ap, arith, false, refl, subst, suc, sym, true, zero, ℕ, ◌&&◌, ◌++◌, ◌+◌, ◌<◌, ◌∙◌, ◌∷◌, ◌≡◌, ◌≤◌}
use Rattle.std.proofs.lemmas.Bool.{and_parts}
use Rattle.std.proofs.lemmas.Bool.Decides.{nat_tests}
use Rattle.std.specs.List.{flat_map, range_with_len}
use Rattle.std.specs.Prelude.{nat_le}
use Rattle.ped_rules.proofs.NestLaws.OnlyBodies.{never, only_runs, pair}
use Rattle.ped_rules.specs.OnlyLoops.{only_loop}
use Rattle.ped_loop_runs.specs.ped_bodies.proofs.BodyLaws.TripLists.{loop_apart, loop_made}
use Rattle.ped_loop_runs.specs.ped_bodies.specs.Trips.{IsMadeOfTrips, IsTrip, OfTrips, bounds_seen, entered_from, loop_acts, loop_close, loop_entry, store_before, trip_end}
use Rattle.ped_loop_runs.specs.ped_laws.specs.Runs.Replaying.{IsEntered, Replays, finish_of, goes_on}
use Rattle.ped_loop_runs.specs.ped_eval.specs.Evaluation.{Seen}
use Rattle.ped_loop_runs.specs.ped_eval.specs.Loops.{Entered, Limits, frame, limits}
use Rattle.ped_loop_runs.specs.ped_eval.specs.Runs.{Run, run}
use Rattle.ped_loop_runs.specs.ped_eval.specs.Scopes.{Scope, Setting, names_in, place_of}
use Rattle.ped_loop_runs.specs.ped_eval.specs.Turns.{body_run}
use Rattle.ped_loop_runs.specs.ped_store.specs.Acts.{Act, Place}
use Rattle.ped_loop_runs.specs.ped_store.specs.Stores.{Store}
use Rattle.ped_tree.specs.Tree.{Do, Head, StmtTrees}

-- what is there for each number of a row, in one function
module _ {X : Type 0} (default : X) (n : ℕ) (P : ℕ → X → Type 0) (each : (k : ℕ) → 1 ≤ k → k ≤ n → (x : X) × P k x) where
  abbrev pub within : ℕ → Bool
  within k = nat_le 1 k && nat_le k n

  pub is_first : (k : ℕ) → within k ≡ true → 1 ≤ k
  is_first k h = let both = and_parts (nat_le 1 k) (nat_le k n) h in let is : nat_le 1 k ≡ true = both.0 in grind (arith, nat_tests)

  pub is_last : (k : ℕ) → within k ≡ true → k ≤ n
  is_last k h = let both = and_parts (nat_le 1 k) (nat_le k n) h in let is : nat_le k n ≡ true = both.1 in grind (arith, nat_tests)

  is_within : (k : ℕ) → 1 ≤ k → k ≤ n → within k ≡ true
  is_within k from to = grind (arith, nat_tests)

  abbrev pub by_test : (k : ℕ) (b : Bool) → within k ≡ b → X
  by_test k true h = (each k (is_first k h) (is_last k h)).0
  by_test k false h = default

  abbrev pub chosen : ℕ → X
  chosen k = by_test k (within k) refl

  pub chosen_are : (k : ℕ) → 1 ≤ k → k ≤ n → P k (chosen k)
  chosen_are k from to = go (within k) refl
    where
      go : (b : Bool) (h : within k ≡ b) → P k (by_test k b h)
      go true h = (each k (is_first k h) (is_last k h)).1
      go false h = absurd (never (within k) (is_within k from to) h)

-- rows that are the same at the numbers that are asked for
pub flat_same : {Y : Type 0} (f g : ℕ → List Y) (m a : ℕ) → ((k : ℕ) → a ≤ k → k < a + m → f k ≡ g k) → flat_map f (range_with_len a m) ≡ flat_map g (range_with_len a m)
flat_same f g zero a h = refl
flat_same f g (suc m) a h = λ i. h a (omega arith) (omega arith) i ++ flat_same f g m (a + 1) (λ k from to. h k (omega (arith, from)) (omega (arith, to))) i

-- a loop with the same trips
pub same_loop : (seen : List Seen) (e : Entered) (scope : Scope) (at : Place) (trip other : ℕ → List Act) → ((k : ℕ) → 1 ≤ k → k ≤ e.count → trip k ≡ other k) → loop_acts seen e scope at trip ≡ loop_acts seen e scope at other
same_loop seen e scope at trip other h =
    λ i. loop_entry seen e scope at ∷ (flat_same (λ j. trip j ++ trip_end e scope at j) (λ j. other j ++ trip_end e scope at j) e.count 1 (λ k from to. ap (λ (acts : List Act). acts ++ trip_end e scope at k) (h k from (omega (arith, to)))) i ++ loop_close e scope at)

-- the limits of an inner loop, and what its body does in each iteration
pub record Row : Type 0 where
  pub bounds : Limits
  pub trip : ℕ → List Act

module _ (p : Setting) (d g : Head) (body inside : StmtTrees) (only : only_loop body ≡ Some (pair g inside)) (l : ℕ) (scope : Scope) (s : Store) (goes : finish_of (run p (Do d body) l scope s).ending ≡ goes_on) where
  pub outer : IsMadeOfTrips p d body l scope s
  outer = loop_apart p d body l scope s goes

  abbrev pub old_entered : Entered
  old_entered = entered_from p d body l scope s outer.bounds

  -- the store before an iteration of the outer loop, and the place of the inner one in it
  abbrev pub store_at : ℕ → Store
  store_at i = store_before (bounds_seen p d scope s) old_entered scope (place_of p l scope) outer.trip s i

  abbrev pub scope_at : ℕ → Scope
  scope_at i = frame old_entered i ∷ scope

  abbrev pub place_at : ℕ → Place
  place_at i = place_of p (l + 1) (scope_at i)

  abbrev pub seen_at : ℕ → List Seen
  seen_at i = bounds_seen p g (scope_at i) (store_at i)

  abbrev pub entered_at : ℕ → Limits → Entered
  entered_at i m = entered_from p g inside (l + 1) (scope_at i) (store_at i) m

  abbrev pub store_in : ℕ → Row → ℕ → Store
  store_in i r j = store_before (seen_at i) (entered_at i r.bounds) (scope_at i) (place_at i) r.trip (store_at i) j

  pub record IsRow (i : ℕ) (r : Row) : Type 0 where
    pub come : (limits (names_in p (scope_at i)) g (store_at i)).result ≡ Ok r.bounds
    pub are : OfTrips (entered_at i r.bounds) (λ j. IsTrip p inside (l + 1) (scope_at i) (entered_at i r.bounds) j (store_in i r j) (r.trip j))
    pub acts : outer.trip i ≡ loop_acts (seen_at i) (entered_at i r.bounds) (scope_at i) (place_at i) r.trip

  pub each_row : (i : ℕ) → 1 ≤ i → i ≤ old_entered.count → (r : Row) × IsRow i r
  each_row i from to = (
    record { bounds = made.bounds; trip = made.trip },
    record { come = made.come; are = made.are; acts = trip.is ∙ ap (λ (r : Run). r.acts) alone ∙ made.acts },
  )
    where
      trip : IsTrip p body l scope old_entered i (store_at i) (outer.trip i)
      trip = outer.are i from to

      alone : body_run p body l scope (frame old_entered i) (store_at i) ≡ run p (Do g inside) (l + 1) (scope_at i) (store_at i)
      alone = only_runs g inside p body (l + 1) (scope_at i) (store_at i) only

      made : IsMadeOfTrips p g inside (l + 1) (scope_at i) (store_at i)
      made = loop_apart p g inside (l + 1) (scope_at i) (store_at i) (ap (λ (r : Run). finish_of r.ending) (sym alone) ∙ trip.goes)

  abbrev pub no_row : Row
  no_row = record { bounds = outer.bounds; trip = λ j. [] }

  abbrev pub row_at : ℕ → Row
  row_at = chosen no_row old_entered.count IsRow each_row

  pub rows_are : (i : ℕ) → 1 ≤ i → i ≤ old_entered.count → IsRow i (row_at i)
  rows_are = chosen_are no_row old_entered.count IsRow each_row

  abbrev pub inner_at : ℕ → Entered
  inner_at i = entered_at i (row_at i).bounds

  -- the acts of the two loops by pairs
  pub pairs_acts : (run p (Do d body) l scope s).acts ≡ loop_acts (bounds_seen p d scope s) old_entered scope (place_of p l scope) (λ i. loop_acts (seen_at i) (inner_at i) (scope_at i) (place_at i) (row_at i).trip)
  pairs_acts =
      outer.acts
      ∙ same_loop (bounds_seen p d scope s) old_entered scope (place_of p l scope) outer.trip (λ i. loop_acts (seen_at i) (inner_at i) (scope_at i) (place_at i) (row_at i).trip) (λ i from to. (rows_are i from to).acts)

-- two loops whose bodies do these acts in each pair of iterations
module _ (p : Setting) (d g : Head) (body inside : StmtTrees) (only : only_loop body ≡ Some (pair g inside)) (l : ℕ) (scope : Scope) (seen : List Seen) (z : Entered) (entered : IsEntered p l scope d body seen z) (inner_seen : ℕ → List Seen) (inner : ℕ → Entered)
    (inner_entered : (a : ℕ) → 1 ≤ a → a ≤ z.count → IsEntered p (l + 1) (frame z a ∷ scope) g inside (inner_seen a) (inner a)) (trip : ℕ → ℕ → List Act)
    (trips_replay : (a b : ℕ) → 1 ≤ a → a ≤ z.count → 1 ≤ b → b ≤ (inner a).count → Replays (body_run p inside (l + 1) (frame z a ∷ scope) (frame (inner a) b)) (trip a b) goes_on) where
  abbrev pub whole_trip : ℕ → List Act
  whole_trip a = loop_acts (inner_seen a) (inner a) (frame z a ∷ scope) (place_of p (l + 1) (frame z a ∷ scope)) (trip a)

  body_made : (a : ℕ) → 1 ≤ a → a ≤ z.count → Replays (body_run p body l scope (frame z a)) (whole_trip a) goes_on
  body_made a from to =
      subst (λ (f : Store → Run). Replays f (whole_trip a) goes_on) (λ i v. sym (only_runs g inside p body (l + 1) (frame z a ∷ scope) v only) i)
      (loop_made p g inside (l + 1) (frame z a ∷ scope) (inner_seen a) (inner a) (inner_entered a from to) (trip a) (λ b low high. trips_replay a b from to low high))

  pub pairs_made : Replays (run p (Do d body) l scope) (loop_acts seen z scope (place_of p l scope) whole_trip) goes_on
  pairs_made = loop_made p d body l scope seen z entered whole_trip body_made
