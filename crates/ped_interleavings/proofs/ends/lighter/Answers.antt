use Rattle.ped_interleavings.proofs.Weighing as weighing
use Rattle.ped_interleavings.proofs.ends.lighter.Goals as goal

pub returns : goal.returns
returns c = weighing.lighter
