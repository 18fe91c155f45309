use Rattle.ped_laws.proofs.ActLaws.Reorderings.{reordered_fits, reordered_leaves, reordered_fits_outside, reordered_leaves_outside}
use Rattle.ped_laws.proofs.acts.orders.reordering.Goals as goal

pub returns-clause-fits : goal.returns-clause-fits
returns-clause-fits c = reordered_fits

pub returns-clause-leaves : goal.returns-clause-leaves
returns-clause-leaves c = reordered_leaves

pub returns-clause-fits_outside : goal.returns-clause-fits_outside
returns-clause-fits_outside c = reordered_fits_outside

pub returns-clause-leaves_outside : goal.returns-clause-leaves_outside
returns-clause-leaves_outside c = reordered_leaves_outside
