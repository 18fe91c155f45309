use Rattle.ped_session.proofs.OneStep.{one}
use Rattle.ped_session.proofs.laws.one_step.Goals as goal

pub returns : goal.returns
returns c = one
