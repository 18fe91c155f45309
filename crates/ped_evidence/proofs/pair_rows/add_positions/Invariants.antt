use Rattle.std.proofs.Common.{◌≡◌, ◌++◌, map, drop}
use Rattle.ped_tree.specs.Views.{expr_tree}
use Rattle.ped_affine.specs.Arguments.{site}
use Rattle.ped_evidence.specs.Kept.{layout_kept, AreRows}
use Rattle.ped_evidence.specs.Systems.{position_rows}
use Rattle.ped_evidence.proofs.pair_rows.add_positions.Given as goal

abbrev pub invariant-loop-i : goal.invariant-loop-i
invariant-loop-i l = record {
  rows : l.rows ++ position_rows (layout_kept l.layout) (site l.source) (site l.sink) (map expr_tree (drop l.i l.left)) (map expr_tree (drop l.i l.right))
      ≡ l.fn.rows ++ position_rows (layout_kept l.layout) (site l.source) (site l.sink) (map expr_tree l.left) (map expr_tree l.right);
  fits : AreRows l.layout.columns l.rows;
}
