use Rattle.ped_scalar.proofs.UnrejectedSteps.{expanded_unrejected}
use Rattle.ped_scalar.proofs.laws.expanding_rejects_nothing.Goals as goal

pub returns : goal.returns
returns c = expanded_unrejected
