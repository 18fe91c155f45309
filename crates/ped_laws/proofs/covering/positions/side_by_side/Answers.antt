use Rattle.ped_laws.proofs.CoveringLaws.Sides.{loops_first, agree}
use Rattle.ped_laws.proofs.covering.positions.side_by_side.Goals as goal

pub returns-clause-loops : goal.returns-clause-loops
returns-clause-loops c = loops_first

pub returns-clause-others : goal.returns-clause-others
returns-clause-others c = agree
