use Rattle.ped_laws.proofs.ActLaws.Renamings.{agreeing_fits, agreeing_leaves, after_other}
use Rattle.ped_laws.proofs.acts.agreeing.agreement.Goals as goal

pub returns-clause-fits : goal.returns-clause-fits
returns-clause-fits c = agreeing_fits

pub returns-clause-leaves : goal.returns-clause-leaves
returns-clause-leaves c = agreeing_leaves

pub returns-clause-keeps : goal.returns-clause-keeps
returns-clause-keeps c = after_other
