use Rattle.std.proofs.Common.{◌≡◌, drop, map}
use Rattle.std.specs.List.{flat_map}
use Rattle.ped_base.specs.Lists.{is_among}
use Rattle.ped_tree.specs.NamesIn.{expr_names}
use Rattle.ped_tree.specs.Views.{expr_tree}
use Rattle.ped_splits.proofs.alike.name_in_read.Given as goal

abbrev pub invariant-loop-item : goal.invariant-loop-item
invariant-loop-item l = is_among l.x (flat_map expr_names (map expr_tree (drop l.item-index l.items))) ≡ is_among l.x (flat_map expr_names (map expr_tree l.items))
