use Rattle.std.proofs.Common.{◌≡◌, ◌+◌, ◌-◌, ◌^◌, ◌≤◌, drop}
use Rattle.ped_tree.specs.Numbering.{statements_count}
use Rattle.ped_tree.specs.Views.{stmt_trees}
use Rattle.ped_print.specs.Lengths.{limited}
use Rattle.ped_calls.proofs.expanding.count_from.Given as goal

abbrev pub invariant-loop-statement : goal.invariant-loop-statement
invariant-loop-statement l = record {
  sum : limited (l.count + statements_count (stmt_trees (drop l.statement-index l.statements))) ≡ limited (l.others + statements_count (stmt_trees l.statements));
  fits : l.count ≤ 2 ^ 64 - 1;
}
