use Rattle.std.proofs.Common.{◌≡◌, ◌+◌, ◌-◌, ◌^◌, ◌≤◌, ◌++◌, map, drop, length, codes}
use Rattle.std.specs.List.{flat_map}
use Rattle.ped_tree.specs.Printing.{parameter_text}
use Rattle.ped_tree.specs.Views.{value_tree}
use Rattle.ped_print.specs.Lengths.{limited}
use Rattle.ped_print.proofs.lengths.constants_length.Given as goal

abbrev pub invariant-loop-constant : goal.invariant-loop-constant
invariant-loop-constant l = record {
  sum : limited (l.total + length (flat_map (λ p. codes ", " ++ parameter_text p) (map value_tree (drop l.constant-index l.constant-items)))) ≡ limited (l.initial.total + length (flat_map (λ p. codes ", " ++ parameter_text p) (map value_tree (drop 1 l.all))));
  fits : l.total ≤ 2 ^ 64 - 1;
}
