use Rattle.ped_laws.proofs.ActLaws.Reorderings.{between_fits, between_leaves, exchanged_fits_outside, exchanged_leaves_outside}
use Rattle.ped_laws.proofs.acts.orders.blocks_exchanged.Goals as goal

pub returns-clause-fits : goal.returns-clause-fits
returns-clause-fits c = between_fits

pub returns-clause-leaves : goal.returns-clause-leaves
returns-clause-leaves c = between_leaves

pub returns-clause-fits_outside : goal.returns-clause-fits_outside
returns-clause-fits_outside c = exchanged_fits_outside

pub returns-clause-leaves_outside : goal.returns-clause-leaves_outside
returns-clause-leaves_outside c = exchanged_leaves_outside
