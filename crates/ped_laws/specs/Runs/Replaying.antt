-- Runs and their acts: from which stores a piece of a run does the same acts, and how it ends then (this project).
use Rattle.std.specs.Prelude.{◌≡◌, ℕ, List, ◌++◌, Bool, true, false, Ok}
use Rattle.ped_eval.specs.ped_store.specs.Stores.{Store}
use Rattle.ped_eval.specs.ped_store.specs.Acts.{Touch, Place, Step, Act}
use Rattle.ped_laws.specs.Acts.Fitting.{Fits, store_after}
use Rattle.ped_flow.specs.ped_tree.specs.Tree.{Head, StmtTrees}
use Rattle.ped_eval.specs.Scopes.{Setting, Scope, names_in}
use Rattle.ped_eval.specs.Evaluation.{Seen}
use Rattle.ped_eval.specs.Loops.{Limits, limits, Entered, entered_with}
use Rattle.ped_eval.specs.Runs.{Ending, going, stopped, failed, Run}
use Rattle.ped_laws.specs.Runs.Seeing.{ComesTo}

-- how a run ends, whatever the store is then: it goes on; a STOP has ended it; a fault has, with its number and its statement (this project)
pub data Finish : Type 0 where
  goes_on : Finish
  stops : Finish
  faults : ℕ → ℕ → Finish

-- an ending without its store (plain words)
abbrev pub finish_of : Ending → Finish
finish_of (going s) = goes_on
finish_of (stopped s) = stops
finish_of (failed fault statement) = faults fault statement

-- the same ending with a store (plain words)
abbrev pub ending_with : Finish → Store → Ending
ending_with goes_on s = going s
ending_with stops s = stopped s
ending_with (faults fault statement) s = failed fault statement

-- what follows is done (plain words)
abbrev pub is_going : Finish → Bool
is_going goes_on = true
is_going stops = false
is_going (faults fault statement) = false

-- a fault has ended it (plain words)
abbrev pub has_fault : Finish → Bool
has_fault goes_on = false
has_fault stops = false
has_fault (faults fault statement) = true

-- an act by its parts (plain words)
abbrev pub act : Step → Place → List Touch → Act
act step at touches = record { step = step; place = at; touches = touches }

-- acts, and then a run (plain words)
abbrev pub behind : List Act → Run → Run
behind acts r = record { acts = acts ++ r.acts; ending = r.ending }

-- from each store that the acts fit, the piece of a run does these acts and no others, ends so, and leaves the store that they leave (this project)
abbrev pub Replays : (Store → Run) → List Act → Finish → Type 0
Replays piece acts finish = (s : Store) → Fits acts s → piece s ≡ record { acts = acts; ending = ending_with finish (store_after acts s) }

-- the acts of a piece of a run determine it: they fit the store that it starts from, and from each store that they fit it does them again and ends alike (this project)
pub record IsToldByActs (piece : Store → Run) : Type 0 where
  pub fits : (s : Store) → Fits (piece s).acts s
  pub replays : (s : Store) → Replays piece (piece s).acts (finish_of (piece s).ending)

-- from each store that holds this, the bounds of the DO with number n see this, and it is entered so (ANSI X3.9-1978, section 11.10.3; this project)
abbrev pub IsEntered : Setting → ℕ → Scope → Head → StmtTrees → List Seen → Entered → Type 0
IsEntered p n scope h body seen e = (l : Limits) × ComesTo (limits (names_in p scope) h) seen (Ok l) × (e ≡ entered_with p n h body seen l)
