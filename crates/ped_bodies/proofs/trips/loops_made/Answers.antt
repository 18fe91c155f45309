use Rattle.ped_bodies.proofs.BodyLaws.TripLists.{loop_made}
use Rattle.ped_bodies.proofs.trips.loops_made.Goals as goal

pub returns : goal.returns
returns c = λ p d body n scope seen e trip is replays. loop_made p d body n scope seen e is trip replays
