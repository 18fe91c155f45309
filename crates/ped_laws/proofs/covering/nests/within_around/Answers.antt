use Rattle.ped_laws.proofs.CoveringLaws.Nesting.{within}
use Rattle.ped_laws.proofs.covering.nests.within_around.Goals as goal

pub returns : goal.returns
returns c = within
