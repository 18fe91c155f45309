use Rattle.ped_rules.proofs.HeadLaws.PlainAnswers.{is_there}
use Rattle.ped_rules.proofs.bounds.is_near.Goals as goal

pub returns : goal.returns
returns c = is_there c.interval.result _ c.is_some.result c.is_some.ensures c.interval.ensures
