use Rattle.ped_session.proofs.RefusedSteps.{stays}
use Rattle.ped_session.proofs.laws.refused_changes_nothing.Goals as goal

pub returns : goal.returns
returns c = stays
