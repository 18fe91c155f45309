use Rattle.std.proofs.Common.{◌≡◌, ◌+◌, ◌*◌, ◌≤◌, take, drop}
use Rattle.ped_tree.specs.Numbering.{statement_count, statements_count}
use Rattle.ped_tree.specs.Views.{stmt_tree, stmt_trees, do_tree}
use Rattle.ped_versions.specs.Flags.{flag_all}
use Rattle.ped_versions.proofs.FlagSteps.{before}
use Rattle.ped_versions.proofs.flags.+flags.Given as goal

abbrev pub decreases-set_in : goal.decreases-set_in
decreases-set_in l = 4 * statements_count (stmt_trees l.statements.now) + 3

abbrev pub decreases-set_at : goal.decreases-set_at
decreases-set_at l = 4 * statement_count (stmt_tree l.statement.now) + 2

abbrev pub decreases-flagged_at : goal.decreases-flagged_at
decreases-flagged_at l = 4 * statement_count (stmt_tree l.statement) + 1

abbrev pub decreases-flagged_loop : goal.decreases-flagged_loop
decreases-flagged_loop l = 4 * statement_count (do_tree l.d)

abbrev pub invariant-set_in-loop-i : goal.invariant-set_in-loop-i
invariant-set_in-loop-i l = record {
  done : flag_all l.parallel l.number (stmt_trees l.fn.statements) l.first ≡ before (take l.i l.statements) (flag_all l.parallel l.number (stmt_trees (drop l.i l.statements)) l.own);
  left : l.own + statements_count (stmt_trees (drop l.i l.statements)) ≡ l.first + statements_count (stmt_trees l.fn.statements);
  from : l.first ≤ l.own;
}
