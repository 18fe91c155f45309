use Rattle.std.proofs.Common.{length}
use Rattle.ped_order.proofs.paths.+common_count.Given as goal

abbrev pub decreases-common_count : goal.decreases-common_count
decreases-common_count l = length l.levels.now
