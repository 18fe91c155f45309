use Rattle.std.proofs.Common.{length}
use Rattle.ped_store.proofs.slots.+saturated_count.Given as goal

abbrev pub decreases-saturated_count : goal.decreases-saturated_count
decreases-saturated_count l = length l.lower.now
