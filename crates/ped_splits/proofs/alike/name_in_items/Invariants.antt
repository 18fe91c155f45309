use Rattle.std.proofs.Common.{◌≡◌, drop, map}
use Rattle.std.specs.List.{flat_map}
use Rattle.ped_base.specs.Lists.{is_among}
use Rattle.ped_tree.specs.NamesIn.{item_names}
use Rattle.ped_tree.specs.Views.{item_tree}
use Rattle.ped_splits.proofs.alike.name_in_items.Given as goal

abbrev pub invariant-loop-item : goal.invariant-loop-item
invariant-loop-item l = is_among l.x (flat_map item_names (map item_tree (drop l.item-index l.items))) ≡ is_among l.x (flat_map item_names (map item_tree l.items))
