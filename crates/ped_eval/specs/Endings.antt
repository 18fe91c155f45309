-- What an answer of the code makes of the outcome of a program (this project).
use Rattle.std.specs.Prelude.{◌≡◌, Result, Ok, Err}
use Rattle.ped_tree.specs.Tree.{ProgramTree}
use Rattle.ped_store.specs.Cells.{Out}
use Rattle.ped_store.specs.Stores.{lines_in}
use Rattle.ped_store.specs.Memories.{Memory}
use Rattle.ped_eval.specs.Outcomes.{Outcome, Ended, Fault, live_names}
use Rattle.ped_eval.specs.Live.{rows_in}
use Rattle.ped_eval.specs.declared.states.Flow.{Flow}
use Rattle.ped_eval.specs.declared.states.RunError.{RunError}
use Rattle.ped_eval.specs.declared.states.RunError.TheVariants as error

-- the outcome of a run with this answer, by what the code keeps then; if memory ran out, there is none
abbrev pub IsOutcomeBy : ProgramTree → Memory → Result Flow RunError → Outcome → Type 0
IsOutcomeBy t m (Ok flow) o = o ≡ Ended (lines_in (m.cells Out)) (rows_in m (live_names t))
IsOutcomeBy t m (Err (error.Fault number statement)) o = o ≡ Fault number statement
IsOutcomeBy t m (Err error.NoMemory) o = ⊥
