use Rattle.std.proofs.Common.{◌≡◌, ◌+◌, ◌-◌, ◌^◌, ◌≤◌, ◌++◌, map, drop, length, codes}
use Rattle.std.specs.List.{flat_map}
use Rattle.ped_tree.specs.Printing.{item_text}
use Rattle.ped_tree.specs.Views.{item_tree}
use Rattle.ped_print.specs.Lengths.{limited}
use Rattle.ped_print.proofs.lengths.items_length.Given as goal

abbrev pub invariant-loop-item : goal.invariant-loop-item
invariant-loop-item l = record {
  sum : limited (l.total + length (flat_map (λ i. codes ", " ++ item_text i) (map item_tree (drop l.item-index l.all)))) ≡ limited (length (flat_map (λ i. codes ", " ++ item_text i) (map item_tree l.all)));
  fits : l.total ≤ 2 ^ 64 - 1;
}
