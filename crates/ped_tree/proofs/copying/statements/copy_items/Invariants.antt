use Rattle.std.proofs.Common.{◌≡◌, map, take}
use Rattle.ped_tree.specs.Views.{item_tree}
use Rattle.ped_tree.proofs.copying.statements.copy_items.Given as goal

abbrev pub invariant-loop-item : goal.invariant-loop-item
invariant-loop-item l = map item_tree l.copies.items ≡ map item_tree (take l.item-index l.items)
