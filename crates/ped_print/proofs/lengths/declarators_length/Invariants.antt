use Rattle.std.proofs.Common.{◌≡◌, ◌+◌, ◌-◌, ◌^◌, ◌≤◌, ◌++◌, map, drop, length, codes}
use Rattle.std.specs.List.{flat_map}
use Rattle.ped_tree.specs.Printing.{declarator_text}
use Rattle.ped_tree.specs.Views.{declarator_tree}
use Rattle.ped_print.specs.Lengths.{limited}
use Rattle.ped_print.proofs.lengths.declarators_length.Given as goal

abbrev pub invariant-loop-declarator : goal.invariant-loop-declarator
invariant-loop-declarator l = record {
  sum : limited (l.total + length (flat_map (λ d. codes ", " ++ declarator_text d) (map declarator_tree (drop l.declarator-index l.declarator-items)))) ≡ limited (l.initial.total + length (flat_map (λ d. codes ", " ++ declarator_text d) (map declarator_tree (drop 1 l.all))));
  fits : l.total ≤ 2 ^ 64 - 1;
}
