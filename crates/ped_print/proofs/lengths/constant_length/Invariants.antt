use Rattle.std.proofs.Common.{◌≡◌, ◌+◌, ◌-◌, ◌^◌, ◌≤◌, drop, length}
use Rattle.ped_tree.specs.Printing.{doubled}
use Rattle.ped_print.specs.Lengths.{limited}
use Rattle.ped_print.proofs.lengths.constant_length.Given as goal

abbrev pub invariant-loop-c : goal.invariant-loop-c
invariant-loop-c l = record {
  sum : limited (l.total + length (doubled (drop l.c-index l.text))) ≡ limited (2 + length (doubled l.text));
  fits : l.total ≤ 2 ^ 64 - 1;
}
