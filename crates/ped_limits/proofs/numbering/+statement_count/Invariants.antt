use Rattle.std.proofs.Common.{◌≡◌, ◌+◌, ◌-◌, ◌^◌, ◌≤◌, drop}
use Rattle.ped_tree.specs.Numbering.{statements_count}
use Rattle.ped_tree.specs.Views.{stmt_trees}
use Rattle.ped_print.specs.Lengths.{limited}
use Rattle.ped_limits.proofs.numbering.+statement_count.Given as goal

abbrev pub invariant-statements_count-loop-statement : goal.invariant-statements_count-loop-statement
invariant-statements_count-loop-statement l = record {
  sum : limited (l.total + statements_count (stmt_trees (drop l.statement-index l.statements))) ≡ limited (statements_count (stmt_trees l.statements));
  fits : l.total ≤ 2 ^ 64 - 1;
}
