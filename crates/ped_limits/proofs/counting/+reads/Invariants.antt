use Rattle.std.proofs.Common.{◌≡◌, ◌+◌, ◌-◌, ◌^◌, ◌≤◌, map, drop, length}
use Rattle.ped_tree.specs.Accesses.{exprs_reads}
use Rattle.ped_tree.specs.Views.{expr_tree, pack_exprs}
use Rattle.ped_print.specs.Lengths.{limited}
use Rattle.ped_limits.specs.Constants.{names_of}
use Rattle.ped_limits.proofs.counting.+reads.Given as goal

abbrev pub invariant-exprs_reads-loop-e : goal.invariant-exprs_reads-loop-e
invariant-exprs_reads-loop-e l = record {
  sum : limited (l.total + length (exprs_reads (names_of l.constants) l.variables (pack_exprs (map expr_tree (drop l.e-index l.exprs))))) ≡ limited (length (exprs_reads (names_of l.constants) l.variables (pack_exprs (map expr_tree l.exprs))));
  fits : l.total ≤ 2 ^ 64 - 1;
}
