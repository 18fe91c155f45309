use Rattle.ped_laws.proofs.ActLaws.Reorderings.{front_fits, front_leaves}
use Rattle.ped_laws.proofs.acts.orders.to_the_front.Goals as goal

pub returns-clause-fits : goal.returns-clause-fits
returns-clause-fits c = front_fits

pub returns-clause-leaves : goal.returns-clause-leaves
returns-clause-leaves c = front_leaves
