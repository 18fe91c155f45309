-- What `auto` leaves where it is cut off since memory runs out (this project).
use Rattle.std.specs.Prelude.{◌≡◌, ℕ, ◌≤◌, List, ◌++◌}
use Rattle.ped_script.specs.declared.items.Command.{Command}
use Rattle.ped_auto.specs.Editing.{Editing}
use Rattle.ped_auto.specs.Replay.{Replays}
use Rattle.ped_auto.specs.Strategy.{Report, IsAuto}

-- the first list is a front of the second
abbrev pub IsFront : List Command → List Command → Type 0
IsFront front whole = (rest : List Command) × (whole ≡ front ++ rest)

-- the editor has accepted some commands whole, and the tests for them are among those that were made; they are the first of those that `auto` accepts
pub record IsCutOff {S : Type 0} (e : Editing S) (s : S) (last : S) (tests : ℕ) : Type 0 where
  pub accepted : List Command
  pub counted : ℕ
  pub replayed : Replays e s accepted last counted
  pub made : counted ≤ tests
  pub front : (report : Report) (end : S) (all : ℕ) → IsAuto e s report end all → IsFront accepted report.accepted
