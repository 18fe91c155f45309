use Rattle.ped_laws.proofs.ActLaws.Reorderings.{reversed_fits, reversed_leaves}
use Rattle.ped_laws.proofs.acts.orders.blocks_reversed.Goals as goal

pub returns-clause-fits : goal.returns-clause-fits
returns-clause-fits c = reversed_fits

pub returns-clause-leaves : goal.returns-clause-leaves
returns-clause-leaves c = reversed_leaves
