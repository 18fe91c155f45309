use Rattle.std.proofs.Common.{◌≡◌, length}
use Rattle.ped_tree.specs.Grammar.Refusal.{earliest}
use Rattle.ped_tree.specs.Grammar.RefusalViews.{found_of}
use Rattle.ped_refusals.specs.OpenBlocks.{blocks_of}
use Rattle.ped_refusals.proofs.Loops.{at_loops}
use Rattle.ped_refusals.proofs.indices.at_loops.Given as goal

abbrev pub invariant-loop-block : goal.invariant-loop-block
invariant-loop-block l = earliest (found_of l.found) (at_loops l.variable (blocks_of l.left)) ≡ earliest (found_of l.fn.found) (at_loops l.variable (blocks_of l.blocks))

abbrev pub decreases-loop-block : goal.decreases-loop-block
decreases-loop-block l = length l.left
