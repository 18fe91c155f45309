use Rattle.ped_laws.proofs.ActLaws.Renamings.{renamed_fits, renamed_leaves, renamed_keeps}
use Rattle.ped_laws.proofs.acts.names.renaming.Goals as goal

pub returns-clause-fits : goal.returns-clause-fits
returns-clause-fits c = renamed_fits

pub returns-clause-leaves : goal.returns-clause-leaves
returns-clause-leaves c = renamed_leaves

pub returns-clause-keeps : goal.returns-clause-keeps
returns-clause-keeps c = renamed_keeps
