use Rattle.ped_scalar.proofs.UnrejectedSteps.{privatised_unrejected}
use Rattle.ped_scalar.proofs.laws.privatising_rejects_nothing.Goals as goal

pub returns : goal.returns
returns c = privatised_unrejected
