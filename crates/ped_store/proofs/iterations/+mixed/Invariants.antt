use Rattle.std.proofs.Common.{length}
use Rattle.ped_store.proofs.iterations.+mixed.Given as goal

abbrev pub decreases-mixed : goal.decreases-mixed
decreases-mixed l = length l.iterations.now
