use Rattle.ped_scalar.proofs.LawfulSteps.{lawful_privatising}
use Rattle.ped_scalar.proofs.laws.privatising_is_lawful.Goals as goal

pub returns : goal.returns
returns c = lawful_privatising
