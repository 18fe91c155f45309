use Rattle.ped_scalar.proofs.LawfulSteps.{lawful_expanding}
use Rattle.ped_scalar.proofs.laws.expanding_is_lawful.Goals as goal

pub returns : goal.returns
returns c = lawful_expanding
