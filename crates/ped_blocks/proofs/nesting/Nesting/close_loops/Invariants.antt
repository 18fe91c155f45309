use Rattle.std.proofs.Common.{◌≡◌, map, vec_len}
use Rattle.ped_tree.specs.Views.{stmt_tree}
use Rattle.ped_blocks.specs.Machine
use Rattle.ped_blocks.specs.BlockViews.{blocks_of}
use Rattle.ped_blocks.proofs.nesting.Nesting.close_loops.Given as goal

abbrev pub invariant-loop-frame : goal.invariant-loop-frame
invariant-loop-frame l =
    Machine.close_loops l.label (blocks_of l.frames.items) (map stmt_tree l.current.items) ≡ Machine.close_loops l.label (blocks_of l.fn.self.frames.items) (map stmt_tree l.fn.self.current.items)

abbrev pub decreases-loop-frame : goal.decreases-loop-frame
decreases-loop-frame l = vec_len l.frames
