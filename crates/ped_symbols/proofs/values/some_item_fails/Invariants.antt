use Rattle.std.proofs.Common.{◌≡◌, map, drop}
use Rattle.std.specs.Prelude.{◌||◌}
use Rattle.ped_tree.specs.Views.{value_tree}
use Rattle.ped_symbols.specs.Values.{some_item_fails, behind_items}
use Rattle.ped_symbols.proofs.values.some_item_fails.Given as goal

abbrev pub invariant-loop-item : goal.invariant-loop-item
invariant-loop-item l = record {
  fails : (l.fails || some_item_fails l.consts (map value_tree (drop l.item-index l.items))) ≡ some_item_fails l.initial.consts (map value_tree l.items);
  consts : behind_items l.consts (map value_tree (drop l.item-index l.items)) ≡ behind_items l.initial.consts (map value_tree l.items);
}
