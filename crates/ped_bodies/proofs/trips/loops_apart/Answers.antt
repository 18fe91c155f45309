use Rattle.ped_bodies.proofs.BodyLaws.TripLists.{loop_apart}
use Rattle.ped_bodies.proofs.trips.loops_apart.Goals as goal

pub returns : goal.returns
returns c = loop_apart
