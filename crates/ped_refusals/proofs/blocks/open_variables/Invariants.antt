use Rattle.std.proofs.Common.{◌≡◌, ◌++◌, length}
use Rattle.ped_tree.specs.Grammar.Contexts as Spec
use Rattle.ped_refusals.specs.OpenBlocks.{blocks_of}
use Rattle.ped_refusals.proofs.blocks.open_variables.Given as goal

abbrev pub invariant-loop-block : goal.invariant-loop-block
invariant-loop-block l = l.names.items ++ Spec.open_variables (blocks_of l.left) ≡ Spec.open_variables (blocks_of l.blocks)

abbrev pub decreases-loop-block : goal.decreases-loop-block
decreases-loop-block l = length l.left
