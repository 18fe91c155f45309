use Rattle.std.proofs.Common.{◌≡◌, List, Bool, length, map, drop}
use Rattle.std.specs.List.{flat_map}
use Rattle.ped_tree.specs.Views.{item_tree}
use Rattle.ped_flow.specs.Events.{scalars_in_item}
use Rattle.ped_flow.specs.RowPlaces.{AreMarked}
use Rattle.ped_flow.specs.RowMarks.{names_in, constants_in}
use Rattle.ped_flow.proofs.marking.mark_items.Given as goal

abbrev pub invariant-loop-item : goal.invariant-loop-item
invariant-loop-item l = record {
  width : length l.row ≡ length (names_in l.places);
  marked : (new : List Bool) → AreMarked (names_in l.places) l.row new (flat_map (scalars_in_item (constants_in l.places)) (map item_tree (drop l.item-index l.items)))
      → AreMarked (names_in l.places) l.initial.row new (flat_map (scalars_in_item (constants_in l.places)) (map item_tree l.items));
}
