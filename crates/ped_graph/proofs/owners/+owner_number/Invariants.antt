use Rattle.std.proofs.Common.{length}
use Rattle.ped_graph.proofs.owners.+owner_number.Given as goal

abbrev pub decreases-owner_number : goal.decreases-owner_number
decreases-owner_number c = length c.nest.now
