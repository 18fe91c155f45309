use Rattle.ped_eval.specs.OutcomeViews.{outcome_view}
use Rattle.ped_session.proofs.running.run_lowered.Goals as goal

pub returns : goal.returns
returns c = (outcome_view c.in_ok-outcome.outcome, c.in_ok-outcome.ensures, c.told_by.ensures)
