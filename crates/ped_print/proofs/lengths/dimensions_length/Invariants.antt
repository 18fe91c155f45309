use Rattle.std.proofs.Common.{◌≡◌, ◌+◌, ◌-◌, ◌^◌, ◌≤◌, ◌++◌, map, drop, length, codes}
use Rattle.std.specs.List.{flat_map}
use Rattle.ped_tree.specs.Printing.{bound_text}
use Rattle.ped_tree.specs.Views.{bound_tree}
use Rattle.ped_print.specs.Lengths.{limited}
use Rattle.ped_print.proofs.lengths.dimensions_length.Given as goal

abbrev pub invariant-loop-bound : goal.invariant-loop-bound
invariant-loop-bound l = record {
  sum : limited (l.total + length (flat_map (λ b. codes "," ++ bound_text b) (map bound_tree (drop l.bound-index l.bound-items)))) ≡ limited (l.initial.total + length (flat_map (λ b. codes "," ++ bound_text b) (map bound_tree (drop 1 l.all))));
  fits : l.total ≤ 2 ^ 64 - 1;
}
