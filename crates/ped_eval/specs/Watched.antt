-- What the code gives a watch (this project).
use Rattle.std.specs.Prelude.{◌≡◌, ℕ, zero, suc, ◌+◌, List, Bool, Result, Ok, Err}
use Rattle.ped_store.specs.Stores.{Store}
use Rattle.ped_store.specs.Acts.{Place, closed}
use Rattle.ped_store.specs.Races.{Access, accesses}
use Rattle.ped_eval.specs.Scopes.{Frame, Scope}
use Rattle.ped_eval.specs.Evaluation.{Evaluated}
use Rattle.ped_eval.specs.Loops.{Entered, frame, exit_touches}
use Rattle.ped_eval.specs.Runs.{Run, nothing_done, does, then_run}
use Rattle.ped_eval.specs.Agreement.{Agrees}
use Rattle.ped_eval.specs.Follow.{Follow}
use Rattle.ped_eval.specs.declared.states.Flow.{Flow}
use Rattle.ped_eval.specs.declared.states.RunError.{RunError}
use Rattle.ped_eval.specs.declared.states.RunError.TheVariants as error

-- something holds unless memory has run out
abbrev pub IfRan : {A : Type 0} → Result A RunError → Type 0 → Type 0
IfRan (Ok u) P = P
IfRan (Err (error.Fault number statement)) P = P
IfRan (Err error.NoMemory) P = Unit {0}

-- of each run from a store that agrees with what was kept at a moment the watch gets the accesses in order, unless memory has run out
abbrev pub Watched : {W : Type 0} → (W → Access → W → Type 0) → W → W → Scope → List ℕ → Store → Result Flow RunError → (Store → Run) → Type 0
Watched follows old new scope moment kept result run = (s : Store) → Agrees scope moment kept s → IfRan result (Follow follows old (accesses (run s).acts) new)

-- what a watch has got so far, and then what is left of a run, comes to the accesses of the whole
abbrev pub Awaits : {W : Type 0} → (W → Access → W → Type 0) → W → W → Scope → List ℕ → Store → (Store → Run) → List Access → Type 0
Awaits {W} follows old now scope moment kept rest whole = (u : Store) × Agrees scope moment kept u × ((new : W) → Follow follows now (accesses (rest u).acts) new → Follow follows old whole new)

-- n more iterations of a DO, the first of them with number k, and its exit after them (ANSI X3.9-1978, sections 11.10.4 to 11.10.7)
abbrev pub turns_run : ℕ → ℕ → Entered → Scope → Place → (Frame → Store → Run) → Store → Run
turns_run zero k e scope at body s = does closed at (exit_touches e scope) nothing_done s
turns_run (suc n) k e scope at body s = then_run (body (frame e k) s) (turns_run n (k + 1) e scope at body)

-- the truth of a condition that a watch has got, or the fault of its statement; if memory ran out, it says nothing
abbrev pub IsWatchedTruth : Evaluated Bool → ℕ → Result Bool RunError → Type 0 → Type 0
IsWatchedTruth e n (Ok b) told = (e.result ≡ Ok b) × told
IsWatchedTruth e n (Err (error.Fault fault statement)) told = (e.result ≡ Err fault) × (statement ≡ n) × told
IsWatchedTruth e n (Err error.NoMemory) told = Unit {0}
