-- A DO of which each trip does likewise what a trip of an old one did.
use Rattle.std.proofs.Common.{◌≡◌, ℕ, ◌≤◌, List, [], ◌∷◌, Bool, true, false, ◌&&◌, refl, sym, subst, arith}
use Rattle.std.specs.Prelude.{nat_le}
use Rattle.std.proofs.lemmas.Bool.{and_parts, both_ways}
use Rattle.std.proofs.lemmas.Bool.Decides.{nat_tests}
use Rattle.ped_steps.specs.ped_flow.specs.ped_tree.specs.Tree.{Head, StmtTrees}
use Rattle.ped_steps.specs.ped_store.specs.Cells.{Cell}
use Rattle.ped_steps.specs.ped_store.specs.Stores.{Store}
use Rattle.ped_steps.specs.ped_store.specs.Acts.{Act}
use Rattle.ped_steps.specs.ped_eval.specs.Scopes.{Setting, Scope, turns_of, place_of}
use Rattle.ped_steps.specs.ped_eval.specs.Evaluation.{Seen}
use Rattle.ped_steps.specs.ped_eval.specs.Loops.{Entered, frame}
use Rattle.ped_steps.specs.ped_eval.specs.Turns.{body_run}
use Rattle.ped_steps.specs.ped_laws.specs.Runs.Replaying.{goes_on, Replays, IsEntered}
use Rattle.ped_bodies.specs.Likewise.{AreLikewise, DoesLikewise}
use Rattle.ped_bodies.specs.Trips.{OfTrips, entered_from, bounds_seen, store_before, IsTrip, IsMadeOfTrips, MakesTripsLikewise, DoTripsLikewise}
use Rattle.ped_bodies.proofs.BodyLaws.TripLists.{loop_made}

-- acts that are there for each iteration, in one function
module _ (e : Entered) (P : ℕ → List Act → Type 0) (each : OfTrips e (λ k. (acts : List Act) × P k acts)) where
  abbrev pub within : ℕ → Bool
  within k = nat_le 1 k && nat_le k e.count

  pub is_first : (k : ℕ) → within k ≡ true → 1 ≤ k
  is_first k h = let both = and_parts (nat_le 1 k) (nat_le k e.count) h in let is : nat_le 1 k ≡ true = both.0 in grind (arith, nat_tests)

  pub is_last : (k : ℕ) → within k ≡ true → k ≤ e.count
  is_last k h = let both = and_parts (nat_le 1 k) (nat_le k e.count) h in let is : nat_le k e.count ≡ true = both.1 in grind (arith, nat_tests)

  is_within : (k : ℕ) → 1 ≤ k → k ≤ e.count → within k ≡ true
  is_within k from to = grind (arith, nat_tests)

  abbrev pub by_test : (k : ℕ) (b : Bool) → within k ≡ b → List Act
  by_test k true h = (each k (is_first k h) (is_last k h)).0
  by_test k false h = []

  abbrev pub chosen : ℕ → List Act
  chosen k = by_test k (within k) refl

  pub chosen_are : OfTrips e (λ k. P k (chosen k))
  chosen_are k from to = go (within k) refl
    where
      go : (b : Bool) (h : within k ≡ b) → P k (by_test k b h)
      go true h = (each k (is_first k h) (is_last k h)).1
      go false h = absurd (both_ways (within k) h (is_within k from to))

module _ (p q : Setting) (d h : Head) (body others : StmtTrees) (n m : ℕ) (scope other : Scope) (s : Store) (seen : List Seen) (z : Entered) (name : Cell → Cell) (idle : Cell → Bool) (f of : ℕ → ℕ) (old : IsMadeOfTrips p d body n scope s) where
  abbrev e : Entered
  e = entered_from p d body n scope s old.bounds

  abbrev Trip : ℕ → List Act → Type 0
  Trip j acts = AreLikewise name idle f (turns_of (frame e (of j) ∷ scope)) (turns_of (frame z j ∷ other)) (old.trip (of j)) acts × Replays (body_run q others m other (frame z j)) acts goes_on

  each_trip : DoTripsLikewise name idle f p body n scope e of q others m other z → OfTrips z (λ j. (acts : List Act) × Trip j acts)
  each_trip does j from to = (done.fresh, (done.likewise, done.replays))
    where
      this : IsTrip p body n scope e (of j) (store_before (bounds_seen p d scope s) e scope (place_of p n scope) old.trip s (of j)) (old.trip (of j))
      this = old.are (of j) (does j from to).0 (does j from to).1

      done : DoesLikewise name idle f (turns_of (frame e (of j) ∷ scope)) (turns_of (frame z j ∷ other)) (old.trip (of j)) goes_on (body_run q others m other (frame z j))
      done =
          subst (λ (acts : List Act). DoesLikewise name idle f (turns_of (frame e (of j) ∷ scope)) (turns_of (frame z j ∷ other)) acts goes_on (body_run q others m other (frame z j))) (sym this.is)
          ((does j from to).2 (store_before (bounds_seen p d scope s) e scope (place_of p n scope) old.trip s (of j)) this.goes)

  pub trips_made : IsEntered q m other h others seen z → DoTripsLikewise name idle f p body n scope e of q others m other z → MakesTripsLikewise name idle f e scope old.trip of q h others m other seen z
  trips_made is does =
      let each = each_trip does in
      record {
        fresh = chosen z Trip each;
        likewise = λ j from to. (chosen_are z Trip each j from to).0;
        replays = loop_made q h others m other seen z is (chosen z Trip each) (λ j from to. (chosen_are z Trip each j from to).1);
      }
