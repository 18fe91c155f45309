-- What `auto` answers: the accepted steps, as a script that does the same, the DOs that are left, each with the first cause against `parallel`, and the source (ParaScope; this project).
use Rattle.std.specs.Prelude.{◌≡◌, ℕ, List, [], ◌∷◌, ◌++◌, codes, length}
use Rattle.std.specs.Fmt.{decimal}
use Rattle.std.specs.List.{flat_map}
use Rattle.ped_transformations.specs.ped_steps.specs.Causes.{Cause}
use Rattle.ped_transformations.specs.ped_steps.specs.CauseWords.{cause_words}
use Rattle.ped_transformations.specs.ped_auto.specs.Strategy.{Report, IsAuto}
use Rattle.ped_script.specs.declared.items.Command.{Command}
use Rattle.ped_script.specs.CommandTexts.{command_text}
use Rattle.ped_session.specs.declared.replies.Reply.TheVariants.{Changed}
use Rattle.ped_versions.specs.States.{State}
use Rattle.ped_session.specs.Replies.{answer_row}
use Rattle.ped_session.specs.Steps.{IsStep}
use Rattle.ped_session.specs.AutoEditing.{session_editing}

-- a command as a script has it: on a line of its own
abbrev pub script_row : Command → List ℕ
script_row command = command_text command ++ 10 ∷ []

-- an accepted step, as a script has it, after a plus sign
abbrev pub accepted_row : Command → List ℕ
accepted_row command = codes "+ " ++ script_row command

-- a DO that is left, with the first cause against `parallel`
abbrev pub left_row : ℕ × Cause → List ℕ
left_row l = codes "left " ++ decimal l.0 ++ codes " " ++ cause_words l.1 ++ 10 ∷ []

-- what `auto` on this line of the script prints: how many steps were accepted, these in order, the DOs that are left in text order, and the source
abbrev pub auto_text : ℕ → Report → List ℕ → List ℕ
auto_text line report source =
    answer_row line (codes "auto " ++ decimal (length report.accepted)) ++ flat_map accepted_row report.accepted ++ flat_map left_row report.left ++ source

-- `auto` on this line does to a session what its strategy does, tests this many pairs for the accepted steps, and prints this
pub record AnswersAuto (line : ℕ) (s : State) (bytes : List ℕ) (tests : ℕ) (next : State) : Type 0 where
  pub report : Report
  pub does : IsAuto session_editing s report next tests
  pub says : bytes ≡ auto_text line report next.present

-- the commands are accepted one after another, whatever the data are, and lead to the last state
abbrev pub AcceptsAll : List Command → State → State → Type 0
AcceptsAll [] s last = last ≡ s
AcceptsAll (command ∷ commands) s last = (next : State) × ((data_bytes : List ℕ) → IsStep command data_bytes s Changed next) × AcceptsAll commands next last
