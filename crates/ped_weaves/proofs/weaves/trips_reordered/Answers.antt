use Rattle.ped_weaves.proofs.WeaveLaws.TripOrders.{trips_stand}
use Rattle.ped_weaves.proofs.weaves.trips_reordered.Goals as goal

pub returns : goal.returns
returns c = trips_stand
