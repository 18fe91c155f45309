use Rattle.std.proofs.Common.{length}
use Rattle.ped_graph.proofs.rejections.+rejects_at.Given as goal

abbrev pub decreases-rejects_at : goal.decreases-rejects_at
decreases-rejects_at c = length c.nest.now
