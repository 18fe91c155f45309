use Rattle.std.proofs.Common.{◌≡◌, ◌+◌, ◌++◌, Some, map, filter}
use Rattle.std.specs.List.{range_with_len}
use Rattle.ped_tree.specs.Views.{stmt_trees}
use Rattle.ped_splits.specs.Units.{stands_in}
use Rattle.ped_splits.proofs.keeping.add_unit.Given as goal

abbrev pub invariant-loop-home : goal.invariant-loop-home
invariant-loop-home l =
    (l.number ≡ l.parted.number + l.home-index) × (l.sources.items ≡ l.initial.sources.items ++ map Some (filter (stands_in l.parted.number (stmt_trees l.parted.statement.now.body.items) l.unit) (range_with_len (l.parted.number + 1) l.home-index)))
