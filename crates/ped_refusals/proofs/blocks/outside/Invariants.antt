use Rattle.std.proofs.Common.{◌≡◌, length, take}
use Rattle.ped_tree.specs.Grammar.ProgramRefusals as Spec
use Rattle.ped_refusals.specs.OpenBlocks.{blocks_of}
use Rattle.ped_refusals.proofs.blocks.outside.Given as goal

abbrev pub invariant-loop-block : goal.invariant-loop-block
invariant-loop-block l = (Spec.closed l.label (blocks_of l.left) ≡ Spec.closed l.label (blocks_of l.blocks)) × (l.left ≡ take (length l.left) l.blocks)

abbrev pub decreases-loop-block : goal.decreases-loop-block
decreases-loop-block l = length l.left
