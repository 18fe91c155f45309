use Rattle.std.proofs.Common.{◌≡◌, ◌+◌, ◌-◌, ◌^◌, ◌≤◌, ◌++◌, map, drop, length, codes}
use Rattle.std.specs.List.{flat_map}
use Rattle.ped_tree.specs.Printing.{value_text}
use Rattle.ped_tree.specs.Views.{expr_tree}
use Rattle.ped_print.specs.Lengths.{limited}
use Rattle.ped_print.proofs.lengths.targets_length.Given as goal

abbrev pub invariant-loop-target : goal.invariant-loop-target
invariant-loop-target l = record {
  sum : limited (l.total + length (flat_map (λ e. codes ", " ++ value_text e) (map expr_tree (drop l.target-index l.all)))) ≡ limited (length (flat_map (λ e. codes ", " ++ value_text e) (map expr_tree l.all)));
  fits : l.total ≤ 2 ^ 64 - 1;
}
