use Rattle.ped_laws.proofs.ActLaws.Reorderings.{sorted_fits, sorted_leaves}
use Rattle.ped_laws.proofs.acts.orders.sorted_by_key.Goals as goal

pub returns-clause-fits : goal.returns-clause-fits
returns-clause-fits c = sorted_fits

pub returns-clause-leaves : goal.returns-clause-leaves
returns-clause-leaves c = sorted_leaves
