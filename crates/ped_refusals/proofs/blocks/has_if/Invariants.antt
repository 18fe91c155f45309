use Rattle.std.proofs.Common.{◌≡◌, length}
use Rattle.ped_tree.specs.Grammar.Contexts as Contexts
use Rattle.ped_refusals.specs.OpenBlocks.{blocks_of}
use Rattle.ped_refusals.proofs.blocks.has_if.Given as goal

abbrev pub invariant-loop-block : goal.invariant-loop-block
invariant-loop-block l = Contexts.has_if (blocks_of l.left) ≡ Contexts.has_if (blocks_of l.blocks)

abbrev pub decreases-loop-block : goal.decreases-loop-block
decreases-loop-block l = length l.left
