-- A session as the editor of `auto`: its present program, the commands that it accepts, and those that it refuses (ParaScope; this project).
use Rattle.std.specs.Prelude.{◌≡◌, MatchOption}
use Rattle.ped_versions.specs.ped_valid.specs.Validity.{ReadsValid}
use Rattle.ped_transformations.specs.ped_rules.specs.Steps.{transformation}
use Rattle.ped_transformations.specs.ped_auto.specs.Editing.{Editing}
use Rattle.ped_transformations.specs.Table.{step_of}
use Rattle.ped_script.specs.declared.items.Command.{Command}
use Rattle.ped_script.specs.declared.kinds.StepCommand.{StepCommand}
use Rattle.ped_script.specs.Kinds.{step_in}
use Rattle.ped_session.specs.declared.replies.Refusal.TheVariants.{Step}
use Rattle.ped_session.specs.declared.replies.Reply.{Reply}
use Rattle.ped_session.specs.declared.replies.Reply.TheVariants.{Changed, Refused}
use Rattle.ped_versions.specs.States.{State}
use Rattle.ped_session.specs.Steps.{Transforms}

-- the step of the command is a transformation, and leads with this reply to this state (ParaScope)
abbrev pub TransformsTo : State → Reply → State → StepCommand → Type 0
TransformsTo s reply next command = ((step_of command).kind ≡ transformation) × Transforms (step_of command) s reply next

-- the command takes a step, which is a transformation, and leads with this reply to this state (ParaScope)
abbrev pub TakesStep : Command → State → Reply → State → Type 0
TakesStep command s reply next = MatchOption (step_in command) ⊥ (TransformsTo s reply next)

-- a session as an editor: what its present source reads as; a transformation that is accepted, with the pairs that it tests; and one that is refused, with its first cause (ParaScope; this project)
abbrev pub session_editing : Editing State
session_editing = record {
  Reads = λ s t. ReadsValid s.present t;
  Accepts = λ s command next tests. TakesStep command s Changed next × (tests ≡ next.tested);
  Refuses = λ s command why. TakesStep command s (Refused (Step why)) s;
}
