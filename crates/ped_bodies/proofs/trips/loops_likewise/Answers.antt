use Rattle.ped_bodies.proofs.BodyLaws.TripsLikewise.{trips_made}
use Rattle.ped_bodies.proofs.trips.loops_likewise.Goals as goal

pub returns : goal.returns
returns c = trips_made
