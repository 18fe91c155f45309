use Rattle.std.proofs.Common.{◌≡◌, map, drop}
use Rattle.std.specs.List.{list_all}
use Rattle.ped_tree.specs.Views.{item_tree}
use Rattle.ped_tree.specs.Grammar.Fits.{item_fits}
use Rattle.ped_fits.proofs.expressions.items_fit.Given as goal

abbrev pub invariant-loop-item : goal.invariant-loop-item
invariant-loop-item l = list_all item_fits (map item_tree (drop l.item-index l.items)) ≡ list_all item_fits (map item_tree l.items)
