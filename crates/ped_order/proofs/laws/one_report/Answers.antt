use Rattle.ped_order.proofs.OneReport.{one_at_least, one_at_most}
use Rattle.ped_order.proofs.laws.one_report.Goals as goal

pub returns-clause-some : goal.returns-clause-some
returns-clause-some c = one_at_least

pub returns-clause-one : goal.returns-clause-one
returns-clause-one c = one_at_most
