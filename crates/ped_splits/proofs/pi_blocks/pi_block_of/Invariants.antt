use Rattle.std.proofs.Common.{◌≡◌, take, filter}
use Rattle.ped_splits.specs.PiBlocks.{are_together}
use Rattle.ped_splits.proofs.pi_blocks.pi_block_of.Given as goal

abbrev pub invariant-loop-unit : goal.invariant-loop-unit
invariant-loop-unit l = l.block ≡ filter (are_together l.reach l.first) (take l.unit-index l.left)
