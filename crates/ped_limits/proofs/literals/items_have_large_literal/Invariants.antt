use Rattle.std.proofs.Common.{◌≡◌, map, drop}
use Rattle.std.specs.List.{list_any}
use Rattle.ped_tree.specs.Grammar.Literals.{item_has_large_literal}
use Rattle.ped_tree.specs.Views.{item_tree}
use Rattle.ped_limits.proofs.literals.items_have_large_literal.Given as goal

abbrev pub invariant-loop-item : goal.invariant-loop-item
invariant-loop-item l = list_any item_has_large_literal (map item_tree (drop l.item-index l.items)) ≡ list_any item_has_large_literal (map item_tree l.items)
