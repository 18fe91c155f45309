use Rattle.std.proofs.Common.{length}
use Rattle.ped_verdict.proofs.places.+following.Given as goal

abbrev pub decreases-following : goal.decreases-following
decreases-following l = length l.vector
