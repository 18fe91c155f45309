use Rattle.std.proofs.Common.{length}
use Rattle.ped_store.proofs.slots.+place_within.Given as goal

abbrev pub decreases-place_within : goal.decreases-place_within
decreases-place_within l = length l.lower.now
