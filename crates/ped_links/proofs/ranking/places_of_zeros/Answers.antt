use Rattle.std.proofs.Common.{length, arith}
use Rattle.ped_links.proofs.ranking.places_of_zeros.Goals as goal

pub loop-place-preserved : goal.loop-place-preserved
loop-place-preserved c = c.in_ok-add_zero.ensures (length c.args.numbers.now) (omega arith) c.loop-place.invariant
