use Rattle.ped_splits.proofs.PiBlockOrders.{ArePlaced}
use Rattle.ped_splits.proofs.pi_blocks.pi_blocks.Given as goal

abbrev pub invariant-loop-round : goal.invariant-loop-round
invariant-loop-round l = ArePlaced l.reach l._round l.pi_blocks.items l.left.items l.leaders.items
