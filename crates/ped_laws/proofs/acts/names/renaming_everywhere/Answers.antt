use Rattle.ped_laws.proofs.ActLaws.Renamings.{all_fit, all_leave}
use Rattle.ped_laws.proofs.acts.names.renaming_everywhere.Goals as goal

pub returns-clause-fits : goal.returns-clause-fits
returns-clause-fits c = all_fit

pub returns-clause-leaves : goal.returns-clause-leaves
returns-clause-leaves c = all_leave
