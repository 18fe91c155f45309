use Rattle.std.proofs.Common.{◌≡◌, ◌+◌, drop}
use Rattle.ped_tree.specs.Views.{stmt_trees}
use Rattle.ped_tree.specs.Numbering.{statements_count}
use Rattle.ped_tree.proofs.numbering.+count.Given as goal

abbrev pub invariant-count_statements-loop-statement : goal.invariant-count_statements-loop-statement
invariant-count_statements-loop-statement l =
    l.total + statements_count (stmt_trees (drop l.statement-index l.statements)) ≡ statements_count (stmt_trees l.statements)
