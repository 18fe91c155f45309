use Rattle.ped_loop_runs.proofs.LoopLaws.Unwritten.{index_unwritten}
use Rattle.ped_loop_runs.proofs.carried.indices_unwritten.Goals as goal

pub returns : goal.returns
returns c = λ t valid edges are. index_unwritten t edges are valid
