use Rattle.std.proofs.Common.{◌≡◌, map, drop}
use Rattle.std.specs.List.{flat_map}
use Rattle.ped_tree.specs.Views.{expr_tree}
use Rattle.ped_tree.specs.Names.Collecting.{with_names}
use Rattle.ped_units.specs.Linking.{assigned_left}
use Rattle.ped_links.proofs.assigning.add_lefts.Given as goal

abbrev pub invariant-loop-item : goal.invariant-loop-item
invariant-loop-item l = with_names l.names (flat_map assigned_left (map expr_tree (drop l.item-index l.items))) ≡ with_names l.initial.names (flat_map assigned_left (map expr_tree l.items))
