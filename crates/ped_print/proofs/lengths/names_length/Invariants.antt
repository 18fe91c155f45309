use Rattle.std.proofs.Common.{◌≡◌, ◌+◌, ◌-◌, ◌^◌, ◌≤◌, ◌++◌, drop, length, codes}
use Rattle.std.specs.List.{flat_map}
use Rattle.ped_print.specs.Lengths.{limited}
use Rattle.ped_print.proofs.lengths.names_length.Given as goal

abbrev pub invariant-loop-name : goal.invariant-loop-name
invariant-loop-name l = record {
  sum : limited (l.total + length (flat_map (λ x. codes ", " ++ x) ((drop l.name-index l.name-items)))) ≡ limited (l.initial.total + length (flat_map (λ x. codes ", " ++ x) ((drop 1 l.all))));
  fits : l.total ≤ 2 ^ 64 - 1;
}
