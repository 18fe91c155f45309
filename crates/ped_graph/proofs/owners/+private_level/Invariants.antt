use Rattle.std.proofs.Common.{length}
use Rattle.ped_graph.proofs.owners.+private_level.Given as goal

abbrev pub decreases-private_level : goal.decreases-private_level
decreases-private_level c = length c.nest.now
