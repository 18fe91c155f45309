use Rattle.std.proofs.Common.{◌≡◌, length, take, true}
use Rattle.ped_tree.specs.Grammar.Contexts as Contexts
use Rattle.ped_refusals.specs.OpenBlocks.{blocks_of}
use Rattle.ped_refusals.proofs.blocks.up_to_if.Given as goal

abbrev pub invariant-loop-block : goal.invariant-loop-block
invariant-loop-block l = record {
  has : Contexts.has_if (blocks_of l.left) ≡ Contexts.has_if (blocks_of l.blocks);
  same : Contexts.has_if (blocks_of l.left) ≡ true → Contexts.left_in_if (blocks_of l.left) ≡ Contexts.left_in_if (blocks_of l.blocks);
  front : l.left ≡ take (length l.left) l.blocks;
}

abbrev pub decreases-loop-block : goal.decreases-loop-block
decreases-loop-block l = length l.left
