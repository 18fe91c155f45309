-- The steps that `auto` takes are undone one by one.
use Rattle.std.proofs.Common.{◌≡◌, ℕ, List, [], ◌∷◌, length, Option, Some, None, refl, ap, ◌∙◌}
use Rattle.std.specs.Prelude.{MatchOption}
use Rattle.ped_transformations.specs.ped_auto.specs.Replay.{Replays}
use Rattle.ped_transformations.specs.Table.{step_of}
use Rattle.ped_script.specs.declared.items.Command.{Command}
use Rattle.ped_script.specs.declared.items.Command.TheVariants.{Undo}
use Rattle.ped_script.specs.declared.kinds.StepCommand.{StepCommand}
use Rattle.ped_script.specs.Kinds.{step_in}
use Rattle.ped_session.specs.declared.replies.Reply.TheVariants.{Changed}
use Rattle.ped_versions.specs.States.{State, gone_back_to}
use Rattle.ped_session.specs.Histories.{Times}
use Rattle.ped_session.specs.AutoEditing.{TransformsTo, session_editing}
use Rattle.ped_session.proofs.Moves.{one_more, back_from, Leaves, step_leaves}

-- an accepted step leaves the former source as the newest of the past
leaves_by : (o : Option StepCommand) (s next : State) → MatchOption o ⊥ (TransformsTo s Changed next) → Leaves s next
leaves_by None s next h = absurd h
leaves_by (Some c) s next h = step_leaves (step_of c) s next h.1

-- so as many `undo` as steps give the source before them, and its past
pub all_undone : (cs : List Command) (d : List ℕ) (s last : State) (tests : ℕ) → Replays session_editing s cs last tests
    → (back : State) × Times (length cs) Undo d last back × (back.present ≡ s.present) × (back.past ≡ s.past)
all_undone [] d s last tests h = (last, refl, ap (λ (n : State). n.present) h.0, ap (λ (n : State). n.past) h.0)
all_undone (c ∷ cs) d s last tests h =
    let rest = all_undone cs d h.0 last h.2 h.4 in
    let left = leaves_by (step_in c) s h.0 h.3.0 in
    let back = gone_back_to (s.present, left.change) s.past rest.0 in
    (back, one_more (length cs) Undo d last rest.0 back rest.1 (back_from d rest.0 (s.present, left.change) s.past (rest.3 ∙ left.past_is)), refl, refl)
