-- A DO that goes on is made of its trips, and a DO whose bodies do the trips does what is made of them.
use Rattle.std.proofs.Common.{◌≡◌, ℕ, zero, suc, ◌+◌, ◌-◌, ◌<◌, ◌≤◌, List, [], ◌∷◌, ◌++◌, Bool, true, false, eqb, eqb-true, Result, Ok, Err, refl, sym, ap, subst, ◌∙◌, arith, append_assoc, append-nil, if◌then◌else◌}
use Rattle.std.specs.Prelude.{◌==◌, ◌&&◌, not}
use Rattle.std.specs.List.{flat_map, range_with_len}
use Rattle.std.proofs.lemmas.Bool.{both_ways}
use Rattle.ped_steps.specs.ped_flow.specs.ped_tree.specs.Tree.{Head, StmtTrees, Do}
use Rattle.ped_steps.specs.ped_store.specs.Stores.{Store}
use Rattle.ped_steps.specs.ped_store.specs.Acts.{Place, Act, ended_turn, closed}
use Rattle.ped_steps.specs.ped_laws.specs.Acts.Fitting.{store_after}
use Rattle.ped_steps.specs.ped_laws.proofs.ActLaws.Stores.{after_append}
use Rattle.ped_steps.specs.ped_eval.specs.Scopes.{Setting, Frame, Scope, names_in, place_of}
use Rattle.ped_steps.specs.ped_eval.specs.Evaluation.{Seen}
use Rattle.ped_steps.specs.ped_eval.specs.Loops.{Limits, limits, Entered, frame, exit_touches, exit_when_none}
use Rattle.ped_steps.specs.ped_eval.specs.Runs.{Run, turns, parallel_turns, run_entered, run}
use Rattle.ped_steps.specs.ped_eval.specs.Turns.{body_run}
use Rattle.ped_steps.specs.ped_laws.specs.Runs.Seeing.{ComesTo}
use Rattle.ped_steps.specs.ped_laws.specs.Runs.Replaying.{Finish, goes_on, stops, faults, finish_of, is_going, act, behind, Replays, IsEntered}
use Rattle.ped_steps.specs.ped_laws.proofs.RunLaws.Sight.{limits_told}
use Rattle.ped_steps.specs.ped_laws.proofs.RunLaws.Joined.{replays_nothing, turns_more, parallel_more, loop_in_order, loop_empty, loop_closed, turns_apart, turns_alone, parallel_apart, parallel_alone, entry_apart, entry_fails, in_order_is, close_apart, close_missing}
use Rattle.ped_bodies.specs.Trips.{loop_entry, trip_end, trips, loop_close, loop_acts, store_before, OfTrips, bounds_seen, entered_from, IsTrip, IsMadeOfTrips}

-- the last of some numbers
flat_last : {X : Type 0} (g : ℕ → List X) (n a b : ℕ) → b ≡ a + n → flat_map g (range_with_len a (suc n)) ≡ flat_map g (range_with_len a n) ++ g b
flat_last {X} g zero a b is = append-nil (g a) ∙ ap g (let same : a ≡ b = omega arith in same)
flat_last {X} g (suc n) a b is =
    ap (λ (xs : List X). g a ++ xs) (flat_last g n (a + 1) b (omega arith))
    ∙ sym (append_assoc (g a) (flat_map g (range_with_len (a + 1) n)) (g b))

-- iteration ends
module _ (e : Entered) (scope : Scope) (at : Place) where
  pub end_in_order : (k left : ℕ) → e.head.parallel ≡ false → e.count - k ≡ left → trip_end e scope at k ≡ act (ended_turn left) at (exit_when_none left e scope) ∷ []
  end_in_order k left in_order is = λ i. if in_order i then [] else act (ended_turn (is i)) at (exit_when_none (is i) e scope) ∷ []

  pub end_parallel : (k : ℕ) → e.head.parallel ≡ true → trip_end e scope at k ≡ []
  end_parallel k parallel = λ i. if parallel i then [] else act (ended_turn (e.count - k)) at (exit_when_none (e.count - k) e scope) ∷ []

  pub close_in_order : e.head.parallel ≡ false → loop_close e scope at ≡ []
  close_in_order in_order = λ i. if in_order i && not (e.count == 0) then act closed at (exit_touches e scope) ∷ [] else []

  pub close_of_none : e.count ≡ 0 → loop_close e scope at ≡ []
  close_of_none none = go (e.head.parallel)
    where
      go : (b : Bool) → (if b && not (e.count == 0) then act closed at (exit_touches e scope) ∷ [] else []) ≡ []
      go true = λ i. if not (none i == 0) then act closed at (exit_touches e scope) ∷ [] else []
      go false = refl

  some_none : (n more : ℕ) → n ≡ suc more → (n == 0) ≡ false
  some_none n more is = grind (arith, eqb-true)

  pub close_parallel : (more : ℕ) → e.head.parallel ≡ true → e.count ≡ suc more → loop_close e scope at ≡ act closed at (exit_touches e scope) ∷ []
  close_parallel more parallel some = λ i. if parallel i && not (some_none e.count more some i) then act closed at (exit_touches e scope) ∷ [] else []

-- a DO whose bodies do the trips
module _ (p : Setting) (d : Head) (body : StmtTrees) (n : ℕ) (scope : Scope) (seen : List Seen) (e : Entered) (is : IsEntered p n scope d body seen e) (trip : ℕ → List Act) (replays : OfTrips e (λ k. Replays (body_run p body n scope (frame e k)) (trip k) goes_on)) where
  abbrev at : Place
  at = place_of p n scope

  abbrev piece : Frame → Store → Run
  piece = body_run p body n scope

  same_flag : e.head.parallel ≡ d.parallel
  same_flag = ap (λ (w : Entered). w.head.parallel) is.2

  turns_replay : e.head.parallel ≡ false → (left k : ℕ) → 1 ≤ k → k + left ≡ e.count + 1 → Replays (turns left k e scope at piece) (trips e scope at trip k left) goes_on
  turns_replay in_order zero k from to = replays_nothing
  turns_replay in_order (suc left) k from to =
      subst (λ (acts : List Act). Replays (turns (suc left) k e scope at piece) acts goes_on) (sym same)
      (turns_more left k e scope at piece (trip k) (trips e scope at trip (k + 1) left) goes_on (replays k from (omega arith)) (turns_replay in_order left (k + 1) (omega arith) (omega arith)))
    where
      same : trips e scope at trip k (suc left) ≡ trip k ++ act (ended_turn left) at (exit_when_none left e scope) ∷ trips e scope at trip (k + 1) left
      same =
          ap (λ (end : List Act). (trip k ++ end) ++ trips e scope at trip (k + 1) left) (end_in_order e scope at k left in_order (omega arith))
          ∙ append_assoc (trip k) (act (ended_turn left) at (exit_when_none left e scope) ∷ []) (trips e scope at trip (k + 1) left)

  parallel_replay : e.head.parallel ≡ true → (left k : ℕ) → 1 ≤ k → k + left ≡ e.count + 1 → Replays (parallel_turns left k e piece) (trips e scope at trip k left) goes_on
  parallel_replay parallel zero k from to = replays_nothing
  parallel_replay parallel (suc left) k from to =
      subst (λ (acts : List Act). Replays (parallel_turns (suc left) k e piece) acts goes_on) (sym same)
      (parallel_more left k e piece (trip k) (trips e scope at trip (k + 1) left) goes_on (replays k from (omega arith)) (parallel_replay parallel left (k + 1) (omega arith) (omega arith)))
    where
      same : trips e scope at trip k (suc left) ≡ trip k ++ trips e scope at trip (k + 1) left
      same = ap (λ (acts : List Act). acts ++ trips e scope at trip (k + 1) left) (ap (λ (end : List Act). trip k ++ end) (end_parallel e scope at k parallel) ∙ append-nil (trip k))

  pub loop_made : Replays (run p (Do d body) n scope) (loop_acts seen e scope at trip) goes_on
  loop_made = by_flag d.parallel refl
    where
      with_close : (acts : List Act) → loop_close e scope at ≡ acts → Replays (run p (Do d body) n scope) (loop_entry seen e scope at ∷ (trips e scope at trip 1 e.count ++ acts)) goes_on → Replays (run p (Do d body) n scope) (loop_acts seen e scope at trip) goes_on
      with_close acts close h = subst (λ (end : List Act). Replays (run p (Do d body) n scope) (loop_entry seen e scope at ∷ (trips e scope at trip 1 e.count ++ end)) goes_on) (sym close) h

      by_count : e.head.parallel ≡ true → d.parallel ≡ true → (count : ℕ) → e.count ≡ count → Replays (run p (Do d body) n scope) (loop_acts seen e scope at trip) goes_on
      by_count flag own zero none =
          with_close [] (close_of_none e scope at none)
          (subst (λ (j : ℕ). Replays (run p (Do d body) n scope) (loop_entry seen e scope at ∷ (trips e scope at trip 1 j ++ [])) goes_on) (sym none) (loop_empty p d body n scope seen e is none))
      by_count flag own (suc more) some =
          with_close (act closed at (exit_touches e scope) ∷ []) (close_parallel e scope at more flag some)
          (loop_closed p d body n scope seen more e (trips e scope at trip 1 e.count) is own some (parallel_replay flag e.count 1 (omega arith) (omega arith)))

      by_flag : (b : Bool) → d.parallel ≡ b → Replays (run p (Do d body) n scope) (loop_acts seen e scope at trip) goes_on
      by_flag true own = by_count (same_flag ∙ own) own e.count refl
      by_flag false own =
          with_close [] (close_in_order e scope at (same_flag ∙ own))
          (subst (λ (acts : List Act). Replays (run p (Do d body) n scope) (loop_entry seen e scope at ∷ acts) goes_on) (sym (append-nil (trips e scope at trip 1 e.count)))
          (loop_in_order p d body n scope seen e (trips e scope at trip 1 e.count) goes_on is own (turns_replay (same_flag ∙ own) e.count 1 (omega arith) (omega arith))))

-- what doesn't go on, doesn't
not_going : (finish : Finish) → is_going finish ≡ false → finish ≡ goes_on → ⊥
not_going finish h e = both_ways (is_going finish) h (ap is_going e)

by_going : {P : Type 0} (finish : Finish) → (finish ≡ goes_on → P) → (is_going finish ≡ false → P) → P
by_going goes_on h k = h refl
by_going stops h k = k refl
by_going (faults fault statement) h k = k refl

-- the trips of a DO that has been entered with this store, its entry done
module _ (p : Setting) (body : StmtTrees) (n : ℕ) (scope : Scope) (e : Entered) (at : Place) (u : Store) where
  abbrev own_piece : Frame → Store → Run
  own_piece = body_run p body n scope

  -- the store before trip j + 1
  abbrev pub stores : ℕ → Store
  stores zero = u
  stores (suc j) = store_after ((own_piece (frame e (suc j)) (stores j)).acts ++ trip_end e scope at (suc j)) (stores j)

  abbrev pub own_trip : ℕ → List Act
  own_trip zero = []
  own_trip (suc j) = (own_piece (frame e (suc j)) (stores j)).acts

  pub stores_are : (j : ℕ) → stores j ≡ store_after (trips e scope at own_trip 1 j) u
  stores_are zero = refl
  stores_are (suc j) =
      ap (store_after (own_trip (suc j) ++ trip_end e scope at (suc j))) (stores_are j)
      ∙ sym (after_append (trips e scope at own_trip 1 j) (own_trip (suc j) ++ trip_end e scope at (suc j)) u)
      ∙ ap (λ (acts : List Act). store_after acts u) (sym (flat_last (λ (k : ℕ). own_trip k ++ trip_end e scope at k) j 1 (suc j) (omega arith)))

  abbrev Goes : ℕ → Type 0
  Goes j = finish_of (own_piece (frame e (suc j)) (stores j)).ending ≡ goes_on

  -- the trips that are left go on, and these are their acts
  pub record AreDone (j left : ℕ) (acts : List Act) : Type 0 where
    pub go : (i : ℕ) → j ≤ i → i < j + left → Goes i
    pub are : acts ≡ trips e scope at own_trip (suc j) left

  first_or_later : (j left : ℕ) → Goes j → ((i : ℕ) → suc j ≤ i → i < suc j + left → Goes i) → (i : ℕ) → j ≤ i → i < j + suc left → Goes i
  first_or_later j left here later i from to = go (eqb i j) refl
    where
      go : (b : Bool) → eqb i j ≡ b → Goes i
      go true same = let is : i ≡ j = eqb-true i j same in subst Goes (sym is) here
      go false unlike = later i (omega (arith, apart)) (omega arith)
        where
          apart : i ≡ j → ⊥
          apart is = both_ways (eqb i j) unlike (grind (arith, eqb-true))

  trips_first : (j left : ℕ) → trips e scope at own_trip (suc j) (suc left) ≡ (own_trip (suc j) ++ trip_end e scope at (suc j)) ++ trips e scope at own_trip (suc j + 1) left
  trips_first j left = refl

  next_number : (j : ℕ) → suc j + 1 ≡ suc (suc j)
  next_number j = omega arith

  turns_done : e.head.parallel ≡ false → (left j : ℕ) → j + left ≡ e.count → finish_of (turns left (suc j) e scope at own_piece (stores j)).ending ≡ goes_on → AreDone j left (turns left (suc j) e scope at own_piece (stores j)).acts
  turns_done in_order zero j to going = record { go = λ i from below. absurd (omega arith); are = refl }
  turns_done in_order (suc left) j to going =
      by_going (finish_of (own_piece (frame e (suc j)) (stores j)).ending) (more (λ (g : finish_of (turns left (suc (suc j)) e scope at own_piece (stores (suc j))).ending ≡ goes_on). turns_done in_order left (suc j) (omega arith) g))
      (λ ended. absurd (not_going (finish_of (own_piece (frame e (suc j)) (stores j)).ending) ended (ap (λ (r : Run). finish_of r.ending) (sym (turns_alone p body n left (suc j) scope e at (stores j) ended)) ∙ going)))
    where
      here : List Act
      here = (own_piece (frame e (suc j)) (stores j)).acts

      ends : here ++ act (ended_turn left) at (exit_when_none left e scope) ∷ [] ≡ here ++ trip_end e scope at (suc j)
      ends = ap (λ (end : List Act). here ++ end) (sym (end_in_order e scope at (suc j) left in_order (omega arith)))

      more : (finish_of (turns left (suc (suc j)) e scope at own_piece (stores (suc j))).ending ≡ goes_on → AreDone (suc j) left (turns left (suc (suc j)) e scope at own_piece (stores (suc j))).acts) → Goes j → AreDone j (suc left) (turns (suc left) (suc j) e scope at own_piece (stores j)).acts
      more next goes = record {
        go = first_or_later j left goes rest.go;
        are = ap (λ (r : Run). r.acts) whole
            ∙ ap (λ (acts : List Act). (here ++ trip_end e scope at (suc j)) ++ acts) rest.are
            ∙ ap (λ (k : ℕ). (here ++ trip_end e scope at (suc j)) ++ trips e scope at own_trip k left) (sym (next_number j));
      }
        where
          whole : turns (suc left) (suc j) e scope at own_piece (stores j) ≡ behind (here ++ trip_end e scope at (suc j)) (turns left (suc (suc j)) e scope at own_piece (stores (suc j)))
          whole =
              turns_apart p body n left (suc j) scope e at (stores j) goes
              ∙ ap (λ (acts : List Act). behind acts (turns left (suc j + 1) e scope at own_piece (store_after acts (stores j)))) ends
              ∙ ap (λ (k : ℕ). behind (here ++ trip_end e scope at (suc j)) (turns left k e scope at own_piece (stores (suc j)))) (next_number j)

          rest : AreDone (suc j) left (turns left (suc (suc j)) e scope at own_piece (stores (suc j))).acts
          rest = next (ap (λ (r : Run). finish_of r.ending) (sym whole) ∙ going)

  parallel_done : e.head.parallel ≡ true → (left j : ℕ) → finish_of (parallel_turns left (suc j) e own_piece (stores j)).ending ≡ goes_on → AreDone j left (parallel_turns left (suc j) e own_piece (stores j)).acts
  parallel_done parallel zero j going = record { go = λ i from below. absurd (omega arith); are = refl }
  parallel_done parallel (suc left) j going =
      by_going (finish_of (own_piece (frame e (suc j)) (stores j)).ending) (more (parallel_done parallel left (suc j)))
      (λ ended. absurd (not_going (finish_of (own_piece (frame e (suc j)) (stores j)).ending) ended (ap (λ (r : Run). finish_of r.ending) (sym (parallel_alone p body n left (suc j) scope e (stores j) ended)) ∙ going)))
    where
      here : List Act
      here = (own_piece (frame e (suc j)) (stores j)).acts

      ends : here ≡ here ++ trip_end e scope at (suc j)
      ends = sym (append-nil here) ∙ ap (λ (end : List Act). here ++ end) (sym (end_parallel e scope at (suc j) parallel))

      more : (finish_of (parallel_turns left (suc (suc j)) e own_piece (stores (suc j))).ending ≡ goes_on → AreDone (suc j) left (parallel_turns left (suc (suc j)) e own_piece (stores (suc j))).acts) → Goes j → AreDone j (suc left) (parallel_turns (suc left) (suc j) e own_piece (stores j)).acts
      more next goes = record {
        go = first_or_later j left goes rest.go;
        are = ap (λ (r : Run). r.acts) whole
            ∙ ap (λ (acts : List Act). (here ++ trip_end e scope at (suc j)) ++ acts) rest.are
            ∙ ap (λ (k : ℕ). (here ++ trip_end e scope at (suc j)) ++ trips e scope at own_trip k left) (sym (next_number j));
      }
        where
          whole : parallel_turns (suc left) (suc j) e own_piece (stores j) ≡ behind (here ++ trip_end e scope at (suc j)) (parallel_turns left (suc (suc j)) e own_piece (stores (suc j)))
          whole =
              parallel_apart p body n left (suc j) scope e (stores j) goes
              ∙ ap (λ (acts : List Act). behind acts (parallel_turns left (suc j + 1) e own_piece (store_after acts (stores j)))) ends
              ∙ ap (λ (k : ℕ). behind (here ++ trip_end e scope at (suc j)) (parallel_turns left k e own_piece (stores (suc j)))) (next_number j)

          rest : AreDone (suc j) left (parallel_turns left (suc (suc j)) e own_piece (stores (suc j))).acts
          rest = next (ap (λ (r : Run). finish_of r.ending) (sym whole) ∙ going)

  -- what follows the entry
  pub record IsDone (acts : List Act) : Type 0 where
    pub go : (i : ℕ) → i < e.count → Goes i
    pub are : acts ≡ trips e scope at own_trip 1 e.count ++ loop_close e scope at

  close_done : e.head.parallel ≡ true → (count : ℕ) → e.count ≡ count → finish_of (run_entered true count e scope at own_piece u).ending ≡ goes_on → IsDone (run_entered true count e scope at own_piece u).acts
  close_done parallel zero none going = record {
    go = λ i below. absurd (omega (arith, none));
    are = ap (λ (k : ℕ). trips e scope at own_trip 1 k ++ []) (sym none) ∙ ap (λ (end : List Act). trips e scope at own_trip 1 e.count ++ end) (sym (close_of_none e scope at none));
  }
  close_done parallel (suc more) some going =
      by_going (finish_of (parallel_turns (suc more) 1 e own_piece u).ending) closes
      (λ ended. absurd (not_going (finish_of (parallel_turns (suc more) 1 e own_piece u).ending) ended (ap (λ (r : Run). finish_of r.ending) (sym (close_missing p body n more scope e at u ended)) ∙ going)))
    where
      closes : finish_of (parallel_turns (suc more) 1 e own_piece u).ending ≡ goes_on → IsDone (run_entered true (suc more) e scope at own_piece u).acts
      closes goes =
          let done = parallel_done parallel (suc more) 0 goes in
          record {
            go = λ i below. done.go i (omega arith) (omega (arith, some, below));
            are = ap (λ (r : Run). r.acts) (close_apart p body n more scope e at u goes)
                ∙ ap (λ (acts : List Act). acts ++ act closed at (exit_touches e scope) ∷ []) done.are
                ∙ ap (λ (k : ℕ). trips e scope at own_trip 1 k ++ act closed at (exit_touches e scope) ∷ []) (sym some)
                ∙ ap (λ (end : List Act). trips e scope at own_trip 1 e.count ++ end) (sym (close_parallel e scope at more parallel some));
          }

  pub entered_done : (b : Bool) → e.head.parallel ≡ b → finish_of (run_entered b e.count e scope at own_piece u).ending ≡ goes_on → IsDone (run_entered b e.count e scope at own_piece u).acts
  entered_done true parallel going = close_done parallel e.count refl going
  entered_done false in_order going =
      let same = in_order_is p body n scope e at u in
      let done = turns_done in_order e.count 0 (omega arith) (ap (λ (r : Run). finish_of r.ending) (sym same) ∙ going) in
      record {
        go = λ i below. done.go i (omega arith) (omega (arith, below));
        are = ap (λ (r : Run). r.acts) same ∙ done.are ∙ sym (append-nil (trips e scope at own_trip 1 e.count)) ∙ ap (λ (end : List Act). trips e scope at own_trip 1 e.count ++ end) (sym (close_in_order e scope at in_order));
      }

-- the run of a DO that goes on
module _ (p : Setting) (d : Head) (body : StmtTrees) (n : ℕ) (scope : Scope) (s : Store) where
  abbrev place : Place
  place = place_of p n scope

  abbrev seen : List Seen
  seen = bounds_seen p d scope s

  module _ (l : Limits) (is : (limits (names_in p scope) d s).result ≡ Ok l) where
    abbrev e : Entered
    e = entered_from p d body n scope s l

    abbrev start : Store
    start = store_after (loop_entry seen e scope place ∷ []) s

    abbrev trip : ℕ → List Act
    trip = own_trip p body n scope e place start

    trip_done : IsDone p body n scope e place start (run_entered d.parallel e.count e scope place (body_run p body n scope) start).acts
        → OfTrips e (λ k. IsTrip p body n scope e k (store_before seen e scope place trip s k) (trip k))
    trip_done done zero from to = absurd (omega arith)
    trip_done done (suc j) from to =
        subst (λ (w : Store). IsTrip p body n scope e (suc j) w (trip (suc j)))
        (stores_are p body n scope e place start j ∙ ap (λ (i : ℕ). store_after (trips e scope place trip 1 i) start) (let same : j ≡ suc j - 1 = omega arith in same))
        (record { goes = done.go j (omega arith); is = refl })

    parted : finish_of (run p (Do d body) n scope s).ending ≡ goes_on → IsMadeOfTrips p d body n scope s
    parted going =
        let whole = entry_apart p d body n scope s l is in
        let done = entered_done p body n scope e place start d.parallel refl (ap (λ (r : Run). finish_of r.ending) (sym whole) ∙ going) in
        record {
          bounds = l;
          come = is;
          entered = (l, subst (ComesTo (limits (names_in p scope) d) seen) is ((limits_told (names_in p scope) d).comes s), refl);
          trip = trip;
          are = trip_done done;
          acts = ap (λ (r : Run). r.acts) whole ∙ ap (λ (acts : List Act). loop_entry seen e scope place ∷ acts) done.are;
        }

  pub loop_apart : finish_of (run p (Do d body) n scope s).ending ≡ goes_on → IsMadeOfTrips p d body n scope s
  loop_apart going = go (limits (names_in p scope) d s).result refl
    where
      go : (r : Result Limits ℕ) → (limits (names_in p scope) d s).result ≡ r → IsMadeOfTrips p d body n scope s
      go (Ok l) is = parted l is going
      go (Err fault) is =
          let same : faults fault (p.number n) ≡ goes_on = ap (λ (r : Run). finish_of r.ending) (sym (entry_fails p d body n scope s fault is)) ∙ going in
          absurd cc
