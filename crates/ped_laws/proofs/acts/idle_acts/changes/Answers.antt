use Rattle.ped_laws.proofs.ActLaws.Changing.{changed_fits, changed_leaves}
use Rattle.ped_laws.proofs.acts.idle_acts.changes.Goals as goal

pub returns-clause-fits : goal.returns-clause-fits
returns-clause-fits c = changed_fits

pub returns-clause-leaves : goal.returns-clause-leaves
returns-clause-leaves c = changed_leaves
