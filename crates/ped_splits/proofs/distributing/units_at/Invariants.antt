use Rattle.std.proofs.Common.{◌≡◌, ℕ, drop, map, slice_index_or}
use Rattle.ped_tree.specs.Tree.{no_stmts}
use Rattle.ped_tree.specs.Views.{stmt_trees}
use Rattle.ped_rules.specs.ped_steps.specs.Replacing.{followed}
use Rattle.ped_splits.specs.CodeUnits.{unit_trees}
use Rattle.ped_splits.specs.Distributing.{joined}
use Rattle.ped_splits.proofs.distributing.units_at.Given as goal

abbrev pub invariant-loop-unit : goal.invariant-loop-unit
invariant-loop-unit l =
    followed (stmt_trees l.all.items) (joined (map (λ (i : ℕ). slice_index_or (unit_trees l.units) i no_stmts) (drop l.unit-index l.block))) ≡ joined (map (λ (i : ℕ). slice_index_or (unit_trees l.units) i no_stmts) l.block)
