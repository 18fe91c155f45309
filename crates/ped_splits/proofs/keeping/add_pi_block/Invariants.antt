use Rattle.std.proofs.Common.{◌≡◌, ◌++◌, take}
use Rattle.ped_tree.specs.Views.{stmt_trees}
use Rattle.ped_splits.specs.Distributing.{pi_block_sources}
use Rattle.ped_splits.proofs.keeping.add_pi_block.Given as goal

abbrev pub invariant-loop-unit : goal.invariant-loop-unit
invariant-loop-unit l = l.sources.items ≡ l.fn.sources.items ++ pi_block_sources l.parted.number (stmt_trees l.parted.statement.now.body.items) l.fn.head (take l.unit-index l.block)
