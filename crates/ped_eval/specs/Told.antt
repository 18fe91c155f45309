-- What the code's answers say of the ending of a run (this project).
use Rattle.std.specs.Prelude.{◌≡◌, ℕ, List, Result, Ok, Err}
use Rattle.ped_store.specs.Stores.{Store}
use Rattle.ped_store.specs.Memories.{Memory}
use Rattle.ped_symbols.specs.Kinds.{Table}
use Rattle.ped_eval.specs.Scopes.{Scope}
use Rattle.ped_eval.specs.Runs.{Ending, going, stopped, failed, Run}
use Rattle.ped_eval.specs.Agreement.{IsSameOutside, Agrees, before}
use Rattle.ped_eval.specs.Readiness.{IsReady, setting_by}
use Rattle.ped_eval.specs.declared.states.Flow.{Flow}
use Rattle.ped_eval.specs.declared.states.Flow.TheVariants as flow
use Rattle.ped_eval.specs.declared.states.RunError.{RunError}
use Rattle.ped_eval.specs.declared.states.RunError.TheVariants as error

-- the run goes on, at a moment where the code keeps this
abbrev pub Goes : Scope → List ℕ → Store → Ending → Type 0
Goes scope moment kept (going s) = Agrees scope moment kept s
Goes scope moment kept (stopped s) = ⊥
Goes scope moment kept (failed fault statement) = ⊥

-- the run has been ended by a STOP, where the code keeps this
abbrev pub Stops : Store → Ending → Type 0
Stops kept (going s) = ⊥
Stops kept (stopped s) = IsSameOutside kept s
Stops kept (failed fault statement) = ⊥

-- the run has been ended by this fault of this statement
abbrev pub Fails : ℕ → ℕ → Ending → Type 0
Fails number n (going s) = ⊥
Fails number n (stopped s) = ⊥
Fails number n (failed fault statement) = (number ≡ fault) × (n ≡ statement)

-- the answer, with what is kept then, says the ending; if memory ran out, it says nothing
abbrev pub Tells : Scope → List ℕ → Result Flow RunError → Store → Ending → Type 0
Tells scope moment (Ok flow.Going) kept ending = Goes scope moment kept ending
Tells scope moment (Ok flow.Stopped) kept ending = Stops kept ending
Tells scope moment (Err (error.Fault number statement)) kept ending = Fails number statement ending
Tells scope moment (Err error.NoMemory) kept ending = Unit {0}

-- of each run from a store that agrees with what was kept at the first moment the answer says the ending, at the second moment
abbrev pub TellsFrom : Scope → List ℕ → Store → List ℕ → Result Flow RunError → Store → (Store → Ending) → Type 0
TellsFrom scope first old second result new ending = (s : Store) → Agrees scope first old s → Tells scope second result new (ending s)

-- the same between the moments before two statements
abbrev pub Ran : Scope → ℕ → Memory → ℕ → Result Flow RunError → Memory → (Store → Run) → Type 0
Ran scope n old next result new run = TellsFrom scope (before scope n) old.cells (before scope next) result new.cells (λ s. (run s).ending)

-- where the run goes on the iterations are the same, and all that can be written in them exists; where a STOP has ended it arrays still have their bounds
abbrev pub StaysReady : Table → Result Flow RunError → Scope → Scope → Memory → Type 0
StaysReady table (Ok flow.Going) old new m = (new ≡ old) × IsReady table new m
StaysReady table (Ok flow.Stopped) old new m = m.bounds ≡ (setting_by table).bounds
StaysReady table (Err e) old new m = Unit {0}

-- something holds where the run goes on
abbrev pub OnGoing : Result Flow RunError → Type 0 → Type 0
OnGoing (Ok flow.Going) P = P
OnGoing (Ok flow.Stopped) P = Unit {0}
OnGoing (Err e) P = Unit {0}

-- from a store that agrees with what is kept at this moment, what is left of a run comes to the ending of the whole
abbrev pub Reaches : Scope → List ℕ → Store → (Store → Ending) → Ending → Type 0
Reaches scope moment kept rest whole = (u : Store) × Agrees scope moment kept u × (rest u ≡ whole)

-- something holds where a STOP has ended the run
abbrev pub OnStopped : Result Flow RunError → Type 0 → Type 0
OnStopped (Ok flow.Going) P = Unit {0}
OnStopped (Ok flow.Stopped) P = P
OnStopped (Err e) P = Unit {0}
