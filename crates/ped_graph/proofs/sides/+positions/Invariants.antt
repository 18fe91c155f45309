use Rattle.std.proofs.Common.{length}
use Rattle.ped_graph.proofs.sides.+positions.Given as goal

-- the positions that are left
abbrev pub decreases-are_told : goal.decreases-are_told
decreases-are_told l = length l.source.now
