use Rattle.ped_steps.proofs.OnePlace.{one_program}
use Rattle.ped_steps.proofs.laws.one_replacement.Goals as goal

pub returns : goal.returns
returns c = one_program
