-- Replies to steps, as the code has them. Only contracts of private functions use it (this project).
use Rattle.std.specs.Prelude.{◌≡◌, Option, Some, None, ⊤}
use Rattle.ped_transformations.specs.ped_steps.specs.declared.causes.Refused.{Refused}
use Rattle.ped_transformations.specs.ped_steps.specs.CodeCauses.{cause_of, IsShort}
use Rattle.ped_session.specs.declared.replies.Refusal.{Refusal}
use Rattle.ped_session.specs.declared.replies.Refusal.TheVariants.{BadEdit, Step, NothingToUndo, NothingToRedo, NoSuchStatement, NoSuchLine, NoSuchPair}
use Rattle.ped_session.specs.declared.replies.Reply.{Reply}
use Rattle.ped_session.specs.declared.replies.Reply.TheVariants as reply

-- the command is refused for a cause against its step
abbrev pub IsForCause : Refusal → Type 0
IsForCause (Step cause) = ⊤
IsForCause (BadEdit why) = ⊥
IsForCause NothingToUndo = ⊥
IsForCause NothingToRedo = ⊥
IsForCause NoSuchStatement = ⊥
IsForCause NoSuchLine = ⊥
IsForCause NoSuchPair = ⊥

-- a step was accepted, or is refused for a cause
abbrev pub IsOfStep : Reply → Type 0
IsOfStep reply.Changed = ⊤
IsOfStep (reply.Shown bytes) = ⊥
IsOfStep (reply.Refused why) = IsForCause why

-- the reply says that the step was accepted, or for which cause, which can be printed, it is refused
abbrev pub Says : Reply → Option Refused → Type 0
Says r None = r ≡ reply.Changed
Says r (Some why) = (r ≡ reply.Refused (Step (cause_of why))) × IsShort why
