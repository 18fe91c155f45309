-- A DO whose run goes on has been left by one of its acts.
use Rattle.std.proofs.Common.{◌≡◌, ℕ, zero, suc, ◌+◌, List, [], ◌∷◌, ◌++◌, Bool, true, false, Result, Ok, Err, refl, inl}
use Rattle.ped_laws.specs.ped_eval.specs.ped_store.specs.Stores.{Store}
use Rattle.ped_laws.specs.ped_eval.specs.ped_store.specs.Acts.{Touch, Place, Step, Act, entered, ended_turn, closed, store_behind}
use Rattle.ped_laws.specs.ped_eval.specs.Scopes.{Frame, Scope}
use Rattle.ped_laws.specs.ped_eval.specs.Evaluation.{Seen, numbered}
use Rattle.ped_laws.specs.ped_eval.specs.Loops.{Entered, frame, exit_touches, exit_when_none}
use Rattle.ped_laws.specs.ped_eval.specs.Runs.{Ending, going, stopped, failed, Run, followed_by, does, on_value, nothing_done, turns, parallel_turns, run_entered}
use Rattle.ped_laws.specs.Acts.Orders.{IsIn}
use Rattle.ped_laws.specs.Runs.Replaying.{act}
use Rattle.ped_laws.proofs.ActLaws.Lists.{in_right}

-- a run that goes on has come to what follows
pub followed_going : (P : List Act → Type 0) → ((front back : List Act) → P back → P (front ++ back)) → (acts : List Act) (e : Ending) (next : Store → Run) (w : Store)
    → (followed_by acts e next).ending ≡ going w → ((u : Store) → (next u).ending ≡ going w → P (next u).acts) → P (followed_by acts e next).acts
followed_going P more acts (going u) next w goes h = more acts (next u).acts (h u goes)
followed_going P more acts (stopped u) next w goes h = absurd cc
followed_going P more acts (failed fault statement) next w goes h = absurd cc

-- a run that goes on has come to a value
pub value_going : {A : Type 0} (P : Run → Type 0) (at : Place) (seen : List Seen) (r : Result A ℕ) (next : List Seen → A → Run) (w : Store)
    → (on_value at seen r next).ending ≡ going w → ((x : A) → r ≡ Ok x → (next seen x).ending ≡ going w → P (next seen x)) → P (on_value at seen r next)
value_going P at seen (Ok x) next w goes h = h x refl goes
value_going P at seen (Err fault) next w goes h = absurd cc

-- a DO at this place
module _ (scope : Scope) (at : Place) (e : Entered) where
  -- one of the acts leaves the DO
  pub record IsExited (acts : List Act) : Type 0 where
    pub step : Step
    pub front : List Touch
    pub among : IsIn (act step at (front ++ exit_touches e scope)) acts

  exited_behind : (front back : List Act) → IsExited back → IsExited (front ++ back)
  exited_behind front back h = record { step = h.step; front = h.front; among = in_right (act h.step at (h.front ++ exit_touches e scope)) front back h.among }

  module _ (body : Frame → Store → Run) (w : Store) where
    turns_exited : (m k : ℕ) (u : Store) → (turns (suc m) k e scope at body u).ending ≡ going w → IsExited (turns (suc m) k e scope at body u).acts
    turns_exited zero k u goes =
        followed_going IsExited exited_behind (body (frame e k) u).acts (body (frame e k) u).ending (does (ended_turn 0) at (exit_when_none 0 e scope) (turns 0 (k + 1) e scope at body)) w goes
        (λ v h. record { step = ended_turn 0; front = []; among = inl refl })
    turns_exited (suc m) k u goes =
        followed_going IsExited exited_behind (body (frame e k) u).acts (body (frame e k) u).ending (does (ended_turn (suc m)) at (exit_when_none (suc m) e scope) (turns (suc m) (k + 1) e scope at body)) w goes
        (λ v h.
        let left : Store = store_behind (exit_when_none (suc m) e scope) v in
        exited_behind (act (ended_turn (suc m)) at (exit_when_none (suc m) e scope) ∷ []) (turns (suc m) (k + 1) e scope at body left).acts (turns_exited m (k + 1) left h))

    entered_behind : (parallel : Bool) (m : ℕ) (u : Store) → (run_entered parallel (suc m) e scope at body u).ending ≡ going w → IsExited (run_entered parallel (suc m) e scope at body u).acts
    entered_behind false m u goes = turns_exited m 1 u goes
    entered_behind true m u goes =
        followed_going IsExited exited_behind (parallel_turns (suc m) 1 e body u).acts (parallel_turns (suc m) 1 e body u).ending (does closed at (exit_touches e scope) nothing_done) w goes
        (λ v h. record { step = closed; front = []; among = inl refl })

    -- from its entry on
    pub entered_exited : (parallel : Bool) (m : ℕ) (seen : List Seen) (u : Store) → (does (entered m) at (numbered 1 seen ++ exit_when_none m e scope) (run_entered parallel m e scope at body) u).ending ≡ going w
        → IsExited (does (entered m) at (numbered 1 seen ++ exit_when_none m e scope) (run_entered parallel m e scope at body) u).acts
    entered_exited parallel zero seen u goes = record { step = entered 0; front = numbered 1 seen; among = inl refl }
    entered_exited parallel (suc m) seen u goes =
        let touches : List Touch = numbered 1 seen ++ exit_when_none (suc m) e scope in
        let left : Store = store_behind touches u in
        exited_behind (act (entered (suc m)) at touches ∷ []) (run_entered parallel (suc m) e scope at body left).acts (entered_behind parallel m left goes)
