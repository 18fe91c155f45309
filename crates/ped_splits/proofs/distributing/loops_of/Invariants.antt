use Rattle.std.proofs.Common.{◌≡◌, drop}
use Rattle.ped_tree.specs.Views.{stmt_trees, head_of}
use Rattle.ped_rules.specs.ped_steps.specs.Replacing.{followed}
use Rattle.ped_splits.specs.Distributing.{loops_of}
use Rattle.ped_splits.proofs.distributing.loops_of.Given as goal

abbrev pub invariant-loop-block : goal.invariant-loop-block
invariant-loop-block l =
    followed (stmt_trees l.loops.items) (loops_of (drop l.block-index l.found) (head_of l.parted.statement.now) (stmt_trees l.parted.statement.now.body.items)) ≡ loops_of l.found (head_of l.parted.statement.now) (stmt_trees l.parted.statement.now.body.items)
