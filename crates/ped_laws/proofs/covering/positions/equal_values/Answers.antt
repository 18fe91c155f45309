use Rattle.ped_laws.proofs.CoveringLaws.Cancelling.{position_solved}
use Rattle.ped_laws.proofs.covering.positions.equal_values.Goals as goal

pub returns : goal.returns
returns c = position_solved
