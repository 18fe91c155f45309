use Rattle.ped_rules.proofs.HeadLaws.PlainAnswers.{is_there}
use Rattle.ped_rules.proofs.bounds.is_constant.Goals as goal

pub returns : goal.returns
returns c = is_there c.constant.result _ c.is_some.result c.is_some.ensures c.constant.ensures
