use Rattle.ped_laws.proofs.ActLaws.Walking.{meeting_fits, meeting_leaves}
use Rattle.ped_laws.proofs.acts.walks.renaming_by_source.Goals as goal

pub returns-clause-fits : goal.returns-clause-fits
returns-clause-fits c = meeting_fits

pub returns-clause-leaves : goal.returns-clause-leaves
returns-clause-leaves c = meeting_leaves
