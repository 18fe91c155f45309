use Rattle.std.proofs.Common.{ℕ, map, slice_index_or}
use Rattle.ped_tree.specs.Tree.{no_stmts}
use Rattle.ped_tree.specs.Views.{stmt_trees}
use Rattle.ped_splits.specs.CodeUnits.{unit_trees}
use Rattle.ped_splits.specs.Distributing.{joined}
use Rattle.ped_splits.proofs.JoinedUnits as law
use Rattle.ped_splits.proofs.distributing.units_at.Goals as goal

pub loop-unit-preserved : goal.loop-unit-preserved
loop-unit-preserved c =
    law.next_unit c.args.units.now (stmt_trees c.loop-unit.all.items) (stmt_trees c.add_copies.new.all.items) c.args.block.now c.loop-unit.unit-index c.index-units-unit.result
    (joined (map (λ (i : ℕ). slice_index_or (unit_trees c.args.units.now) i no_stmts) c.args.block.now)) c.in_ok-add_copies.ensures c.loop-unit-test.true (c.requires c.loop-unit.unit-index 0 c.loop-unit-test.true) c.loop-unit.invariant

pub returns : goal.returns
returns c =
    law.all_units c.args.units.now (stmt_trees c.loop-unit.all.items) c.args.block.now c.loop-unit.unit-index (joined (map (λ (i : ℕ). slice_index_or (unit_trees c.args.units.now) i no_stmts) c.args.block.now)) c.loop-unit-test.false c.loop-unit.invariant
