use Rattle.std.proofs.Common.{◌≡◌, ◌+◌, ap, arith}
use Rattle.ped_tree.specs.Grammar.Contexts.{left_in_if}
use Rattle.ped_tree.specs.Grammar.ProgramRefusals.{block_depth}
use Rattle.ped_refusals.specs.OpenBlocks.{blocks_of}
use Rattle.ped_refusals.proofs.Depths.{in_if_less}
use Rattle.ped_refusals.proofs.blocks.begin_else_if.Goals as goal

pub overflow_add-ifs : goal.overflow_add-ifs
overflow_add-ifs c =
    let before = blocks_of c.args.blocks.now.items in
    let left : block_depth (blocks_of c.leave_in_if.new.blocks.items) ≡ block_depth (left_in_if before) = ap block_depth c.leave_in_if.ensures in
    let innermost : block_depth (blocks_of c.leave_in_if.new.blocks.items) ≡ block_depth (blocks_of c.close_innermost.new.blocks.items) + c.in-Some-Then.ifs = ap block_depth (rw c.in-Some-Then.field-0-is at c.in-Some-Then.ensures) in
    omega (arith, left, innermost, in_if_less before, c.requires)
