use Rattle.std.proofs.Common.{◌≡◌, ◌++◌, map, drop, codes}
use Rattle.std.specs.List.{flat_map}
use Rattle.ped_tree.specs.Printing.{item_text}
use Rattle.ped_tree.specs.Views.{item_tree}
use Rattle.ped_print.proofs.statements.push_items.Given as goal

abbrev pub invariant-loop-item : goal.invariant-loop-item
invariant-loop-item l =
    l.out ++ flat_map (λ i. codes ", " ++ item_text i) (map item_tree (drop l.item-index l.all)) ≡ l.initial.out ++ flat_map (λ i. codes ", " ++ item_text i) (map item_tree l.all)
