-- The steps that `auto` takes in a session, one behind another.
use Rattle.std.proofs.Common.{◌≡◌, inl, inr, ℕ, List, [], ◌∷◌, Option, Some, None, refl, sym, ap, subst}
use Rattle.std.specs.Prelude.{MatchOption}
use Rattle.ped_transformations.specs.ped_rules.specs.Steps.{transformation, StepAt}
use Rattle.ped_transformations.specs.ped_auto.specs.Replay.{Replays}
use Rattle.ped_transformations.specs.ped_auto.specs.Strategy.{Report, IsAuto}
use Rattle.ped_transformations.specs.ped_auto.proofs.OneCourse as course
use Rattle.ped_transformations.specs.Table.{step_of}
use Rattle.ped_script.specs.declared.items.Command.{Command}
use Rattle.ped_script.specs.declared.kinds.StepCommand.{StepCommand}
use Rattle.ped_script.specs.declared.kinds.CommandKind.{CommandKind}
use Rattle.ped_script.specs.declared.kinds.CommandKind.TheVariants as kind
use Rattle.ped_script.specs.Kinds.{kind_of, step_among, step_in}
use Rattle.ped_session.specs.declared.replies.Reply.{Reply}
use Rattle.ped_session.specs.declared.replies.Reply.TheVariants.{Changed}
use Rattle.ped_versions.specs.States.{Other, State}
use Rattle.ped_session.specs.Steps.{change_by, IsStepOf, IsStep}
use Rattle.ped_session.specs.Meanings.{ComesFrom}
use Rattle.ped_session.specs.AutoEditing.{TransformsTo, TakesStep, session_editing}
use Rattle.ped_session.specs.AutoEditingLaws.{IsTaken, taken, session_laws}
use Rattle.ped_session.specs.AutoAnswers.{AcceptsAll}

-- the steps of `auto` are taken one behind another
pub auto_steps : (s last : State) (report : Report) (tests : ℕ) → IsAuto session_editing s report last tests → Replays session_editing s report.accepted last tests
auto_steps s last report tests h = course.auto_replays session_editing session_laws s last report tests h

-- a transformation is a step, whatever the data are
as_step : (k : CommandKind) (d : List ℕ) (s next : State) (reply : Reply) → MatchOption (step_among k) ⊥ (TransformsTo s reply next) → IsStepOf k d s reply next
as_step (kind.Step c) d s next reply h = h.1
as_step (kind.Ask query) d s next reply h = absurd h
as_step (kind.Edit edit) d s next reply h = absurd h
as_step kind.Auto d s next reply h = absurd h
as_step (kind.Move way) d s next reply h = absurd h
as_step (kind.Run run) d s next reply h = absurd h

pub is_step : (c : Command) (d : List ℕ) (s next : State) (reply : Reply) → TakesStep c s reply next → IsStep c d s reply next
is_step c d s next reply h = as_step (kind_of c) d s next reply h

module _ (Is : State → Type 0) (keeps : (c : Command) (s next : State) → Is s → TakesStep c s Changed next → Is next) where
  -- what each step keeps, all keep
  pub all_keep : (cs : List Command) (s last : State) (tests : ℕ) → Is s → Replays session_editing s cs last tests → Is last
  all_keep [] s last tests k h = subst Is (sym h.0) k
  all_keep (c ∷ cs) s last tests k h = all_keep cs h.0 last h.2 (keeps c s h.0 k h.3.0) h.4

-- they are accepted one behind another
pub accepts_all : (cs : List Command) (s last : State) (tests : ℕ) → Replays session_editing s cs last tests → AcceptsAll cs s last
accepts_all [] s last tests h = h.0
accepts_all (c ∷ cs) s last tests h = (h.0, (λ d. is_step c d s h.0 Changed h.3.0), accepts_all cs h.0 last h.2 h.4)

-- a source has come from itself
from_itself : (source : List ℕ) (past : List Other) → ComesFrom source past source
from_itself source [] = refl
from_itself source (other ∷ past) = inl refl

-- and further by a transformation
further_by : (at : StepAt) (s next : State) (earlier : List ℕ) → at.kind ≡ transformation → IsTaken at s next → ComesFrom s.present s.past earlier → ComesFrom next.present next.past earlier
further_by at s next earlier kind a h =
    subst (λ (n : State). ComesFrom n.present n.past earlier) (sym a.next_is) (inr (ap change_by kind, h))

comes_by : (o : Option StepCommand) (s next : State) (earlier : List ℕ) → MatchOption o ⊥ (TransformsTo s Changed next) → ComesFrom s.present s.past earlier → ComesFrom next.present next.past earlier
comes_by None s next earlier h k = absurd h
comes_by (Some c) s next earlier h k = further_by (step_of c) s next earlier h.0 (taken (step_of c) s next h.1) k

-- so its source has come from the former one
pub auto_comes : (s last : State) (report : Report) (tests : ℕ) → IsAuto session_editing s report last tests → ComesFrom last.present last.past s.present
auto_comes s last report tests h =
    all_keep (λ n. ComesFrom n.present n.past s.present) (λ c m n k t. comes_by (step_in c) m n s.present t k) report.accepted s last tests (from_itself s.present s.past) (auto_steps s last report tests h)
