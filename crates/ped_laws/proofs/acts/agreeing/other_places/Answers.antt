use Rattle.ped_laws.proofs.ActLaws.Renamings.{same_fits, same_leaves}
use Rattle.ped_laws.proofs.acts.agreeing.other_places.Goals as goal

pub returns-clause-fits : goal.returns-clause-fits
returns-clause-fits c = same_fits

pub returns-clause-leaves : goal.returns-clause-leaves
returns-clause-leaves c = same_leaves
