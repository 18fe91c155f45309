use Rattle.std.proofs.Common.{◌≡◌, ◌++◌, take}
use Rattle.ped_tree.specs.Views.{stmt_trees}
use Rattle.ped_splits.specs.Distributing.{loop_sources}
use Rattle.ped_splits.proofs.keeping.add_loops.Given as goal

abbrev pub invariant-loop-place : goal.invariant-loop-place
invariant-loop-place l = l.sources.items ≡ l.initial.sources.items ++ loop_sources l.parted.number (stmt_trees l.parted.statement.now.body.items) (take l.place l.pi_blocks)
