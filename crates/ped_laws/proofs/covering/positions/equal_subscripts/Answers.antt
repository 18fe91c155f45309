use Rattle.ped_laws.proofs.CoveringLaws.Solutions.{possible}
use Rattle.ped_laws.proofs.covering.positions.equal_subscripts.Goals as goal

pub returns : goal.returns
returns c = possible
