use Rattle.std.proofs.Common.{◌≡◌, ◌+◌, ◌-◌, ◌^◌, ◌≤◌, map, drop, length}
use Rattle.std.specs.List.{flat_map}
use Rattle.ped_tree.specs.Accesses.{left_accesses}
use Rattle.ped_tree.specs.Views.{expr_tree}
use Rattle.ped_print.specs.Lengths.{limited}
use Rattle.ped_limits.specs.Constants.{names_of}
use Rattle.ped_limits.proofs.counting.targets_accesses.Given as goal

abbrev pub invariant-loop-item : goal.invariant-loop-item
invariant-loop-item l = record {
  sum : limited (l.total + length (flat_map (left_accesses (names_of l.constants) l.variables) (map expr_tree (drop l.item-index l.items)))) ≡ limited (length (flat_map (left_accesses (names_of l.constants) l.variables) (map expr_tree l.items)));
  fits : l.total ≤ 2 ^ 64 - 1;
}
