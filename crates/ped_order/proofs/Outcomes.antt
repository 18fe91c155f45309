-- Where a program runs without a race, each of its interleavings has the outcome of its run in order.
use Rattle.std.proofs.Common.{◌≡◌, ℕ, List, [], ◌∷◌, length, true, false, Some, refl, sym, ap, subst, ◌∙◌}
use Rattle.std.specs.Str.Lines.{lines}
use Rattle.ped_interleavings.specs.ped_tree.specs.Tree.{ProgramTree}
use Rattle.ped_interleavings.specs.ped_eval.specs.ped_store.specs.Stores.{Store, store_at_start}
use Rattle.ped_interleavings.specs.ped_eval.specs.ped_store.specs.Acts.{Act, store_behind}
use Rattle.ped_interleavings.specs.ped_eval.specs.ped_store.specs.Races.{are_apart}
use Rattle.ped_interleavings.specs.ped_eval.specs.Runs.{Ending, going, stopped, failed, Run}
use Rattle.ped_interleavings.specs.ped_eval.specs.Outcomes.{setting_of, run_of, outcome_of, outcome, Ends}
use Rattle.ped_interleavings.specs.Lefts.{finished, left_of_all}
use Rattle.ped_interleavings.specs.Steps.{Next, step}
use Rattle.ped_interleavings.specs.Interleavings.{choice, behind_act, standing_by, ended_by, at_start, IsInterleaved}
use Rattle.ped_laws.specs.Acts.Orders.{IsIn, StandsBefore}
use Rattle.ped_laws.specs.Acts.Origins.{WritesItsLines}
use Rattle.ped_laws.specs.Acts.Conflicts.{acts_conflict}
use Rattle.ped_laws.specs.Acts.Fitting.{Fits, store_after}
use Rattle.ped_laws.specs.FlowRuns.Covering.{some_stops_in_loop}
use Rattle.ped_laws.specs.Runs.Replaying.{Finish, goes_on, stops, finish_of, ending_with}
use Rattle.ped_laws.proofs.ActLaws.Lists.{first_in, second_in}
use Rattle.ped_laws.proofs.ActLaws.Stores.{after_append, fits_first}
use Rattle.ped_order.proofs.Traces.{nothing, flat, join-nothing}
use Rattle.ped_order.proofs.Doing.{all_done, by_stop, Does}
use Rattle.ped_order.proofs.Stepping.{all_steps}
use Rattle.ped_order.proofs.Tracing.{IsGoing, NoneConflict, finish_goes, traced_all}
use Rattle.ped_order.proofs.Halting.{IsStopped, halted_all}
use Rattle.ped_order.proofs.Reaching.{step_more, from_reached}

finish_stops : (e : Ending) → IsStopped e → finish_of e ≡ stops
finish_stops (going s) h = absurd h
finish_stops (stopped s) h = refl
finish_stops (failed fault statement) h = absurd h

-- acts without a race, each of which writes the lines that it touches
pub none_conflict : (acts : List Act) → ((a b : Act) → StandsBefore a b acts → are_apart a.place.turns b.place.turns ≡ true → WritesItsLines a → WritesItsLines b → acts_conflict a b ≡ false)
    → ((a : Act) → IsIn a acts → WritesItsLines a) → NoneConflict acts
none_conflict acts free lines a b before apart = free a b before apart (lines a (first_in a b acts before)) (lines b (second_in a b acts before))

-- a run that fits its start, and ends with the store that its acts leave
module _ (t : ProgramTree) (data_bytes choices : List ℕ) (fits_start : Fits (run_of t data_bytes).acts (store_at_start (lines data_bytes)))
    (own : (run_of t data_bytes).ending ≡ ending_with (finish_of (run_of t data_bytes).ending) (store_after (run_of t data_bytes).acts (store_at_start (lines data_bytes)))) where
  abbrev start : Store
  start = store_at_start (lines data_bytes)

  abbrev whole : Run
  whole = run_of t data_bytes

  -- the outcome of the run in order
  outcome_by : (finish : Finish) → finish_of whole.ending ≡ finish → outcome t data_bytes ≡ outcome_of t (ending_with finish (store_after whole.acts start))
  outcome_by finish e = ap (outcome_of t) own ∙ ap (λ (f : Finish). outcome_of t (ending_with f (store_after whole.acts start))) e

  going_agrees : IsGoing whole.ending → NoneConflict whole.acts → IsInterleaved t data_bytes choices (outcome t data_bytes)
  going_agrees h free =
      let p = setting_of t in
      let r = traced_all p t.body 1 [] start h in
      let left = left_of_all t.body 1 [] finished in
      let d : Does p all_done r.trace left = subst (λ z. Does p all_done z left) (join-nothing r.trace) (r.does_so all_done finished nothing refl) in
      let fit : Fits (flat r.trace) start = subst (λ (z : List Act). Fits z start) r.same fits_start in
      let x = all_steps p (length (flat r.trace)) all_done r.trace (at_start t data_bytes choices) refl d (r.free free) fit in
      let same : outcome_of t (going x.last.store) ≡ outcome t data_bytes =
      ap (λ (s : Store). outcome_of t (going s)) (x.store ∙ ap (λ (z : List Act). store_after z start) (sym r.same)) ∙ sym (outcome_by goes_on (finish_goes whole.ending h)) in
      (x.last, x.reached, ap (λ l. ended_by t (step p l (choice x.last.choices) x.last.store) x.last.store) x.at_end ∙ ap Some same)

  stopped_agrees : some_stops_in_loop t.body ≡ false → IsStopped whole.ending → NoneConflict whole.acts → IsInterleaved t data_bytes choices (outcome t data_bytes)
  stopped_agrees none h free =
      let p = setting_of t in
      let r = halted_all p t.body 1 [] none start h in
      let fit : Fits (flat r.trace) start = fits_first (flat r.trace) (r.last ∷ []) start (subst (λ (z : List Act). Fits z start) r.same fits_start) in
      let x = all_steps p (length (flat r.trace)) (by_stop r.last) r.trace (at_start t data_bytes choices) refl (r.does_so finished) (r.free free) fit in
      let new = behind_act r.last finished x.last in
      let same : outcome_of t (going new.store) ≡ outcome t data_bytes =
      ap (λ (s : Store). outcome_of t (going s)) (
      ap (store_behind r.last.touches) x.store ∙ sym (after_append (flat r.trace) (r.last ∷ []) start) ∙ ap (λ (z : List Act). store_after z start) (sym r.same)
      )
      ∙ sym (outcome_by stops (finish_stops whole.ending h)) in
      from_reached t (at_start t data_bytes choices) x.last (outcome t data_bytes) x.reached
      (step_more t x.last new (outcome t data_bytes) (ap (λ (z : Next). standing_by z x.last) (x.at_end (choice x.last.choices) x.last.store)) (new, (0, refl), ap Some same))

  race_free_agrees : (e : Ending) → whole.ending ≡ e → some_stops_in_loop t.body ≡ false → Ends e → NoneConflict whole.acts → IsInterleaved t data_bytes choices (outcome t data_bytes)
  race_free_agrees (going s) q none ends free = going_agrees (subst IsGoing (sym q) tt) free
  race_free_agrees (stopped s) q none ends free = stopped_agrees none (subst IsStopped (sym q) tt) free
  race_free_agrees (failed fault statement) q none ends free = absurd ends

  pub agrees : some_stops_in_loop t.body ≡ false → Ends whole.ending → NoneConflict whole.acts → IsInterleaved t data_bytes choices (outcome t data_bytes)
  agrees none ends free = race_free_agrees whole.ending refl none ends free
