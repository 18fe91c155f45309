use Rattle.std.proofs.Common.{◌≡◌, map, vec_len}
use Rattle.ped_tree.specs.Views.{stmt_tree}
use Rattle.ped_blocks.specs.Machine
use Rattle.ped_blocks.specs.BlockViews.{arms_of}
use Rattle.ped_blocks.proofs.frames.chained.Given as goal

abbrev pub invariant-loop-condition : goal.invariant-loop-condition
invariant-loop-condition l =
    Machine.chained (arms_of l.arms.items) (map stmt_tree l.part.items) ≡ Machine.chained (arms_of l.fn.arms.items) (map stmt_tree l.fn.else_part.items)

abbrev pub decreases-loop-condition : goal.decreases-loop-condition
decreases-loop-condition l = vec_len l.arms
