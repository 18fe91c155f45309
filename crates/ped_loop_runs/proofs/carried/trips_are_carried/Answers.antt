use Rattle.ped_loop_runs.proofs.LoopLaws.Trips.{trips_carried}
use Rattle.ped_loop_runs.proofs.carried.trips_are_carried.Goals as goal

pub returns : goal.returns
returns c = λ t data_bytes valid edges are l loop. trips_carried c.accesses_are_made.ensures c.accesses_in_sequence.ensures t data_bytes valid edges are l loop
