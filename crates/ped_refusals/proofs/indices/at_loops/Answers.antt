use Rattle.std.proofs.Common.{◌∙◌}
use Rattle.ped_tree.specs.Grammar.RefusalViews.{found_of}
use Rattle.ped_refusals.specs.OpenBlocks.{block_of, blocks_of}
use Rattle.ped_refusals.proofs.Loops.{loop_step}
use Rattle.ped_refusals.proofs.indices.at_loops.Goals as goal

pub loop-block-preserved : goal.loop-block-preserved
loop-block-preserved c =
    loop_step c.args.variable.now (found_of c.loop-block.found) (found_of c.at_block-found.result) (block_of c.in-Some.block.now) (blocks_of c.in-Some.outer.now) (blocks_of c.loop-block.left.now) c.in-Some.ensures.is c.at_block-found.ensures
    ∙ c.loop-block.invariant
