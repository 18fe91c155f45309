use Rattle.ped_loop_runs.proofs.LoopLaws.Trips.{trips_apart}
use Rattle.ped_loop_runs.proofs.carried.trips_dont_conflict.Goals as goal

pub returns : goal.returns
returns c = λ t data_bytes valid edges are l loop. trips_apart c.accesses_are_made.ensures c.accesses_in_sequence.ensures t data_bytes valid edges are l loop
