use Rattle.std.proofs.Common.{◌+◌, ◌*◌, length}
use Rattle.ped_edges.proofs.products.+strip.Given as goal

abbrev pub decreases-strip_product : goal.decreases-strip_product
decreases-strip_product l = 2 * length l.places.now

abbrev pub decreases-strip_where : goal.decreases-strip_where
decreases-strip_where l = 2 * length l.places.now + 1
