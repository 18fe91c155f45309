use Rattle.ped_laws.proofs.PlainLaws.Insides.{inside_iteration}
use Rattle.ped_laws.proofs.plain.bounds.iterations_are_inside.Goals as goal

pub returns : goal.returns
returns c = inside_iteration
