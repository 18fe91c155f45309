use Rattle.std.proofs.Common.{◌≡◌, ◌++◌, map, drop, All}
use Rattle.ped_views.specs.Limits.{FitsLoops}
use Rattle.ped_tree.specs.Views.{expr_tree}
use Rattle.ped_affine.specs.PairViews.{positions_of}
use Rattle.ped_affine.specs.Arguments.{setting_of, site}
use Rattle.ped_affine.proofs.views.positions.Given as goal

abbrev pub invariant-loop-i : goal.invariant-loop-i
invariant-loop-i l = record {
  value : l.found.items ++ positions_of (setting_of l.pair.setting) (site l.pair.source) (site l.pair.sink) (map expr_tree (drop l.i l.left)) (map expr_tree (drop l.i l.right))
      ≡ positions_of (setting_of l.pair.setting) (site l.pair.source) (site l.pair.sink) (map expr_tree l.left) (map expr_tree l.right);
  fits : All (FitsLoops l.pair.depths.common l.pair.depths.source l.pair.depths.sink) l.found.items;
}
