use Rattle.ped_interleavings.proofs.Ending.{some_outcome}
use Rattle.ped_interleavings.proofs.ends.an_interleaving.Goals as goal

pub returns : goal.returns
returns c = some_outcome
