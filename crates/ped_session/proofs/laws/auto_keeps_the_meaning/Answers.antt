use Rattle.ped_session.proofs.AutoSteps.{auto_comes}
use Rattle.ped_session.proofs.KeptMeanings.{auto_keeps}
use Rattle.ped_session.proofs.laws.auto_keeps_the_meaning.Goals as goal

pub returns-clause-kept : goal.returns-clause-kept
returns-clause-kept c = λ s last report tests k h. auto_keeps c.every_step_is_lawful.ensures s last report tests k h

pub returns-clause-comes : goal.returns-clause-comes
returns-clause-comes c = λ s last report tests h. auto_comes s last report tests h
