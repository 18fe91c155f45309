use Rattle.ped_laws.proofs.ActLaws.Walking.{beside_fits, beside_leaves}
use Rattle.ped_laws.proofs.acts.walks.side_by_side.Goals as goal

pub returns-clause-fits : goal.returns-clause-fits
returns-clause-fits c = beside_fits

pub returns-clause-leaves : goal.returns-clause-leaves
returns-clause-leaves c = beside_leaves
