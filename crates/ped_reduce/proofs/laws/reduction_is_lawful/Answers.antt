use Rattle.ped_reduce.proofs.ReducingLawful.{lawful}
use Rattle.ped_reduce.proofs.laws.reduction_is_lawful.Goals as goal

pub returns : goal.returns
returns c = lawful c.stays_trusted.ensures c.private_names_cleared.ensures
