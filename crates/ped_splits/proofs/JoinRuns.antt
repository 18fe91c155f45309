-- What the one DO does in an execution: in each iteration what the first DO did in it, and then what the second one did.
use Rattle.std.proofs.Common.{Bool, List, [], ap, arith, false, if◌then◌else◌, refl, subst, suc, sym, true, zero, ℕ, ◌++◌, ◌+◌, ◌<◌, ◌∙◌, ◌∷◌, ◌≡◌, ◌≤◌}
use Rattle.std.specs.Str.Lines.{lines}
use Rattle.ped_tree.specs.Numbering.{statements_count}
use Rattle.ped_tree.specs.Tree.{Do, Head, ProgramTree}
use Rattle.ped_rules.specs.ped_loop_runs.proofs.PastingLaws.PastedLoops.{run_followed}
use Rattle.ped_rules.specs.ped_loop_runs.specs.Executions.{IsExecuted}
use Rattle.ped_rules.specs.ped_bodies.proofs.BodyLaws.Instances.{distributed_body}
use Rattle.ped_rules.specs.ped_bodies.proofs.BodyLaws.TripLists.{loop_made}
use Rattle.ped_rules.specs.ped_bodies.specs.Likewise.{AreLikewise, DoesLikewise}
use Rattle.ped_rules.specs.ped_bodies.specs.Moving.{in_loop, moved_behind, own_number}
use Rattle.ped_rules.specs.ped_bodies.specs.Standing.{SettingsAgree}
use Rattle.ped_rules.specs.ped_bodies.specs.Trips.{IsMadeOfTrips, bounds_seen, entered_from, loop_acts, store_before}
use Rattle.ped_rules.specs.ped_steps.specs.Replacing.{followed}
use Rattle.ped_rules.specs.ped_steps.specs.Runs.Renumbering.{renumbered}
use Rattle.ped_rules.specs.ped_laws.proofs.RunLaws.Sight.{limits_told}
use Rattle.ped_rules.specs.ped_laws.proofs.RunLaws.Told.{replays_behind}
use Rattle.ped_rules.specs.ped_laws.specs.Acts.Fitting.{store_after}
use Rattle.ped_rules.specs.ped_laws.specs.Acts.Sets.{nothing}
use Rattle.ped_rules.specs.ped_laws.specs.Runs.Replaying.{IsEntered, Replays, finish_of, goes_on}
use Rattle.ped_rules.specs.ped_laws.specs.Runs.Seeing.{ComesTo}
use Rattle.ped_rules.specs.ped_eval.specs.Evaluation.{Seen}
use Rattle.ped_rules.specs.ped_eval.specs.Loops.{Entered, copied_names, frame, inner_variables, limits}
use Rattle.ped_rules.specs.ped_eval.specs.Outcomes.{setting_of}
use Rattle.ped_rules.specs.ped_eval.specs.Runs.{Run, run, run_all}
use Rattle.ped_rules.specs.ped_eval.specs.Scopes.{Scope, Setting, names_in, place_of, turns_of}
use Rattle.ped_rules.specs.ped_store.specs.Acts.{Act, iterations_of}
use Rattle.ped_rules.specs.ped_store.specs.Cells.{Cell}
use Rattle.ped_rules.specs.ped_store.specs.Stores.{Store, store_at_start}
use Rattle.ped_splits.proofs.JoinBounds.{same_count, same_value}
use Rattle.ped_splits.proofs.JoinFacts.{AreJoined, both_loops, one_body, one_head}
use Rattle.ped_splits.proofs.JoinNumbers.{first_numbers, own_number_is, second_numbers}
use Rattle.ped_splits.proofs.JoinParts.{first_trips, quiet_first, second_trips}
use Rattle.ped_splits.proofs.SplitRuns.{all_are, all_chosen}
use Rattle.ped_rules.specs.KeepMaps.{opened_at}

module _ (t u : ProgramTree) (s : ℕ) (x : AreJoined t u s) (data_bytes : List ℕ) (scope : Scope) (front behind : List Act) (v : Store)
    (executed : IsExecuted (setting_of t) t (store_at_start (lines data_bytes)) s (statements_count (both_loops x)) scope front (run_all (setting_of t) (both_loops x) s scope v).acts behind v)
    (goes : finish_of (run_all (setting_of t) (both_loops x) s scope v).ending ≡ goes_on) where
  abbrev p : Setting
  p = setting_of t

  abbrev q : Setting
  q = renumbered (opened_at (s + 1 + statements_count x.own_body)) (setting_of t)

  abbrev m : ℕ
  m = s + 1 + statements_count x.own_body

  abbrev pub old : IsMadeOfTrips (setting_of t) x.own x.own_body s scope v
  old = first_trips t u s x scope v goes

  abbrev pub other : IsMadeOfTrips (setting_of t) x.next x.next_body (s + 1 + statements_count x.own_body) scope (store_after (run (setting_of t) (Do x.own x.own_body) s scope v).acts v)
  other = second_trips t u s x scope v goes

  -- the two as they were entered, and what the bounds of the first one read
  abbrev pub e : Entered
  e = entered_from (setting_of t) x.own x.own_body s scope v (first_trips t u s x scope v goes).bounds

  abbrev pub e2 : Entered
  e2 = entered_from (setting_of t) x.next x.next_body (s + 1 + statements_count x.own_body) scope (store_after (run (setting_of t) (Do x.own x.own_body) s scope v).acts v) (second_trips t u s x scope v goes).bounds

  abbrev pub seen : List Seen
  seen = bounds_seen (setting_of t) x.own scope v

  -- the one is entered as the first one is
  abbrev pub z : Entered
  z = record { number = s; head = record x.own { rejected = x.rejected }; first = e.first; step = e.step; count = e.count; behind_bounds = e.behind_bounds; inner = e.inner }

  abbrev pub first_names : Cell → Cell
  first_names = moved_behind (iterations_of (turns_of scope)) (in_loop s s)

  abbrev pub second_names : Cell → Cell
  second_names = moved_behind (iterations_of (turns_of scope)) (in_loop (s + 1 + statements_count x.own_body) s)

  -- in an iteration the first body does likewise what it did
  pub record IsFirstDone (i : ℕ) (acts : List Act) : Type 0 where
    pub likewise : AreLikewise first_names nothing own_number (turns_of (frame e i ∷ scope)) (turns_of (frame z i ∷ scope)) (old.trip i) acts
    pub replays : Replays (run_all q x.own_body (s + 1) (frame z i ∷ scope)) acts goes_on

  first_agree : SettingsAgree own_number p q x.own_body (s + 1) (s + 1)
  first_agree = record { constants = refl; bounds = λ y w. refl; numbers = λ k less. first_numbers t u s x k less }

  pub each_first : (i : ℕ) → 1 ≤ i → i ≤ e.count → (acts : List Act) × IsFirstDone i acts
  each_first i from to =
      let was = old.are i from to in
      let done : DoesLikewise first_names nothing own_number (turns_of (frame e i ∷ scope)) (turns_of (frame z i ∷ scope)) (old.trip i) goes_on (run_all q x.own_body (s + 1) (frame z i ∷ scope)) =
      subst (λ (acts : List Act). DoesLikewise first_names nothing own_number (turns_of (frame e i ∷ scope)) (turns_of (frame z i ∷ scope)) acts goes_on (run_all q x.own_body (s + 1) (frame z i ∷ scope))) (sym was.is)
      (distributed_body p q x.own_body (s + 1) (s + 1) first_agree scope s s (frame e i) (frame z i) refl refl refl (refl, refl) refl (store_before seen e scope (place_of p s scope) old.trip v i) was.goes) in
      (done.fresh, record { likewise = done.likewise; replays = done.replays })

  -- and so does the second one
  pub record IsSecondDone (i : ℕ) (acts : List Act) : Type 0 where
    pub likewise : AreLikewise second_names nothing own_number (turns_of (frame e2 i ∷ scope)) (turns_of (frame z i ∷ scope)) (other.trip i) acts
    pub replays : Replays (run_all q x.next_body (s + 1 + statements_count x.own_body) (frame z i ∷ scope)) acts goes_on

  second_agree : SettingsAgree own_number p q x.next_body (m + 1) m
  second_agree = record { constants = refl; bounds = λ y w. refl; numbers = λ k less. second_numbers t u s x k }

  no_copies : (b : Bool) (h : Head) (inner : List (List ℕ)) → b ≡ false → h.private ≡ [] → (if b then h.variable ∷ (h.private ++ inner) else h.private) ≡ []
  no_copies true h inner serial none = absurd cc
  no_copies false h inner serial none = none

  pub one_private : copied_names z ≡ []
  one_private = no_copies x.own.parallel x.own e.inner x.serial x.private

  pub first_private : copied_names e ≡ []
  first_private = no_copies x.own.parallel x.own e.inner x.serial x.private

  pub second_private : copied_names e2 ≡ []
  second_private = no_copies x.next.parallel x.next e2.inner x.next_serial x.next_private

  pub counts : e2.count ≡ e.count
  counts = same_count t u s x data_bytes scope front behind v executed goes

  pub each_second : (i : ℕ) → 1 ≤ i → i ≤ e.count → (acts : List Act) × IsSecondDone i acts
  each_second i from to =
      let many = counts in
      let was = other.are i from (omega (arith, to, many)) in
      let done : DoesLikewise second_names nothing own_number (turns_of (frame e2 i ∷ scope)) (turns_of (frame z i ∷ scope)) (other.trip i) goes_on (run_all q x.next_body m (frame z i ∷ scope)) =
      subst (λ (acts : List Act). DoesLikewise second_names nothing own_number (turns_of (frame e2 i ∷ scope)) (turns_of (frame z i ∷ scope)) acts goes_on (run_all q x.next_body m (frame z i ∷ scope))) (sym was.is)
      (distributed_body p q x.next_body (m + 1) m second_agree scope m s (frame e2 i) (frame z i) refl refl refl (sym x.variable, sym (same_value t u s x data_bytes scope front behind v executed goes i)) (one_private ∙ sym second_private)
      (store_before (bounds_seen p x.next scope (store_after (run p (Do x.own x.own_body) s scope v).acts v)) e2 scope (place_of p m scope) other.trip (store_after (run p (Do x.own x.own_body) s scope v).acts v) i) was.goes) in
      (done.fresh, record { likewise = done.likewise; replays = done.replays })

  -- what the two bodies do in an iteration of the one DO
  abbrev pub IsPartDone : ℕ → ℕ → List Act → Type 0
  IsPartDone i zero acts = IsFirstDone i acts
  IsPartDone i (suc k) acts = IsSecondDone i acts

  pub each_part : (i k : ℕ) → 1 ≤ i → i ≤ e.count → k < 2 → (acts : List Act) × IsPartDone i k acts
  each_part i zero from to less = each_first i from to
  each_part i (suc k) from to less = each_second i from to

  abbrev pub new_part : ℕ → ℕ → List Act
  new_part = all_chosen e.count 2 IsPartDone each_part

  pub first_done : (i : ℕ) → 1 ≤ i → i ≤ e.count → IsFirstDone i (new_part i 0)
  first_done i from to = all_are e.count 2 IsPartDone each_part i 0 from to (omega arith)

  pub second_done : (i : ℕ) → 1 ≤ i → i ≤ e.count → IsSecondDone i (new_part i 1)
  second_done i from to = all_are e.count 2 IsPartDone each_part i 1 from to (omega arith)

  -- what they did
  abbrev pub old_part : ℕ → ℕ → List Act
  old_part i zero = (first_trips t u s x scope v goes).trip i
  old_part i (suc k) = (second_trips t u s x scope v goes).trip i

  abbrev pub new_trip : ℕ → List Act
  new_trip i = new_part i 0 ++ new_part i 1

  -- the one DO does this
  abbrev pub new_acts : List Act
  new_acts = loop_acts seen z scope (place_of (renumbered (opened_at (s + 1 + statements_count x.own_body)) (setting_of t)) s scope) new_trip

  body_replays : (i : ℕ) → 1 ≤ i → i ≤ e.count → Replays (run_all q (one_body x) (s + 1) (frame z i ∷ scope)) (new_trip i) goes_on
  body_replays i from to =
      let d = first_done i from to in
      let g = second_done i from to in
      let there : s + 1 + statements_count x.own_body ≡ m = refl in
      subst (λ (f : Store → Run). Replays f (new_part i 0 ++ new_part i 1) goes_on) (sym (run_followed q x.own_body (followed x.between x.next_body) (s + 1) (frame z i ∷ scope)))
      (replays_behind (run_all q x.own_body (s + 1) (frame z i ∷ scope)) (run_all q (followed x.between x.next_body) m (frame z i ∷ scope)) (new_part i 0) (new_part i 1) goes_on d.replays
      (subst (λ (f : Store → Run). Replays f (new_part i 1) goes_on) (sym (quiet_first q x.between x.next_body x.comments m (frame z i ∷ scope))) g.replays))

  enters : IsEntered q s scope (one_head x) (one_body x) seen z
  enters = (old.bounds, subst (ComesTo (limits (names_in p scope) x.own) seen) old.come ((limits_told (names_in p scope) x.own).comes v), (λ i. record { number = sym (own_number_is t u s x) i; head = record x.own { rejected = x.rejected }; first = e.first; step = e.step; count = e.count; behind_bounds = e.behind_bounds; inner = none_inner i }))
    where
      none_inner : e.inner ≡ inner_variables x.own.parallel (one_body x)
      none_inner = ap (λ (b : Bool). inner_variables b x.own_body) x.serial ∙ sym (ap (λ (b : Bool). inner_variables b (one_body x)) x.serial)

  pub one_replays : Replays (run q (Do (record x.own { rejected = x.rejected }) (followed x.own_body (followed x.between x.next_body))) s scope) new_acts goes_on
  one_replays = loop_made q (one_head x) (one_body x) s scope seen z enters new_trip body_replays
