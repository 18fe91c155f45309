use Rattle.ped_laws.proofs.ActLaws.Reorderings.{blocks_fit, blocks_leave}
use Rattle.ped_laws.proofs.acts.orders.blocks_reordered.Goals as goal

pub returns-clause-fits : goal.returns-clause-fits
returns-clause-fits c = blocks_fit

pub returns-clause-leaves : goal.returns-clause-leaves
returns-clause-leaves c = blocks_leave
