use Rattle.std.proofs.Common.{◌≡◌, map, take}
use Rattle.ped_tree.specs.Views.{item_tree}
use Rattle.ped_links.specs.ped_units.specs.Expanding.{item_replaced}
use Rattle.ped_calls.specs.Meaning.{meanings_of}
use Rattle.ped_calls.proofs.replacing.items_replaced.Given as goal

abbrev pub invariant-loop-item : goal.invariant-loop-item
invariant-loop-item l = map item_tree l.all.items ≡ map (item_replaced (meanings_of l.m)) (map item_tree (take l.item-index l.items))
