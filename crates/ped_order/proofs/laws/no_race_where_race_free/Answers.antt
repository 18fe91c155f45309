use Rattle.ped_order.proofs.OneReport.{none_where_free}
use Rattle.ped_order.proofs.laws.no_race_where_race_free.Goals as goal

pub returns : goal.returns
returns c = none_where_free
