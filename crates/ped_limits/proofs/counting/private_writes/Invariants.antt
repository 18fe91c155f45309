use Rattle.std.proofs.Common.{◌≡◌, ◌+◌, ◌-◌, ◌^◌, ◌≤◌, drop, length}
use Rattle.ped_tree.specs.Accesses.{private_writes}
use Rattle.ped_print.specs.Lengths.{limited}
use Rattle.ped_limits.specs.Constants.{names_of}
use Rattle.ped_limits.proofs.counting.private_writes.Given as goal

abbrev pub invariant-loop-name : goal.invariant-loop-name
invariant-loop-name l = record {
  sum : limited (l.total + length (private_writes (names_of l.constants) (drop l.name-index l.private))) ≡ limited (length (private_writes (names_of l.constants) l.private));
  fits : l.total ≤ 2 ^ 64 - 1;
}
