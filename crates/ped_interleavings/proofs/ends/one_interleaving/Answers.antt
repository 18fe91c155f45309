use Rattle.ped_interleavings.proofs.Ending.{one_outcome}
use Rattle.ped_interleavings.proofs.ends.one_interleaving.Goals as goal

pub returns : goal.returns
returns c = one_outcome
