-- A refused command leaves the session as it was.
use Rattle.std.proofs.Common.{◌≡◌, ℕ, List, [], ◌∷◌}
use Rattle.ped_script.specs.declared.items.Command.{Command}
use Rattle.ped_script.specs.declared.kinds.CommandKind.{CommandKind}
use Rattle.ped_script.specs.Kinds.{kind_of}
use Rattle.ped_session.specs.declared.replies.Refusal.{Refusal}
use Rattle.ped_session.specs.declared.replies.Reply.TheVariants.{Refused}
use Rattle.ped_versions.specs.States.{Other, State}
use Rattle.ped_transformations.specs.ped_rules.specs.Steps.{StepAt}
use Rattle.ped_transformations.specs.Table.{step_of}
use Rattle.ped_session.specs.Steps.{Edits, accepted, refused, Transforms, missing, forbidden, transformed, GoesBack, GoesForward, IsStep}
use Rattle.ped_session.proofs.Doing.{Does, by_nothing, by_edit, by_step, by_undo, by_redo, no_refusal, does}

edit_stays : (kept gone : ℕ) (edited : List ℕ) (s next : State) (why : Refusal) → Edits kept gone edited s (Refused why) next → next ≡ s
edit_stays kept gone edited s next why (accepted old new from to reply after) = absurd (no_refusal why reply)
edit_stays kept gone edited s next why (refused cause first same) = same.1

step_stays : (at : StepAt) (s next : State) (why : Refusal) → Transforms at s (Refused why) next → next ≡ s
step_stays at s next why (missing t reads none same) = same.1
step_stays at s next why (forbidden t reads some c is same) = same.1
step_stays at s next why (transformed t new keep reads some none makes valid reply after) = absurd (no_refusal why reply)

back_stays : (past : List Other) (s next : State) (why : Refusal) → GoesBack past s (Refused why) next → next ≡ s
back_stays [] s next why h = h.1
back_stays (other ∷ past) s next why h = absurd (no_refusal why h.0)

forward_stays : (future : List Other) (s next : State) (why : Refusal) → GoesForward future s (Refused why) next → next ≡ s
forward_stays [] s next why h = h.1
forward_stays (other ∷ future) s next why h = absurd (no_refusal why h.0)

stays_by : (k : CommandKind) (s next : State) (why : Refusal) → Does k s (Refused why) next → next ≡ s
stays_by k s next why (by_nothing same is) = is
stays_by k s next why (by_edit kept gone text h) = edit_stays kept gone text s next why h
stays_by k s next why (by_step command h) = step_stays (step_of command) s next why h
stays_by k s next why (by_undo is h) = back_stays s.past s next why h
stays_by k s next why (by_redo is h) = forward_stays s.future s next why h

pub stays : (c : Command) (data_bytes : List ℕ) (s next : State) (why : Refusal) → IsStep c data_bytes s (Refused why) next → next ≡ s
stays c d s next why h = stays_by (kind_of c) s next why (does (kind_of c) d s next (Refused why) h)
