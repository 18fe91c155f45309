use Rattle.std.proofs.Common.{length}
use Rattle.ped_order.proofs.paths.+is_elsewhere.Given as goal

abbrev pub decreases-is_elsewhere : goal.decreases-is_elsewhere
decreases-is_elsewhere l = length l.levels.now
