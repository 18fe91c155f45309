use Rattle.std.proofs.Common.{◌≡◌, ◌+◌, ◌≤◌, drop}
use Rattle.ped_tree.specs.Numbering.{statements_count}
use Rattle.ped_tree.specs.Views.{stmt_trees}
use Rattle.ped_tree.specs.Grammar.Fits.{stmts_fit}
use Rattle.ped_fits.specs.Surroundings.{place}
use Rattle.ped_fits.proofs.statements.+statements.Given as goal

abbrev pub invariant-statements_fit-loop-statement : goal.invariant-statements_fit-loop-statement
invariant-statements_fit-loop-statement l = record {
  fits : stmts_fit (place l.around l.next) (stmt_trees (drop l.statement-index l.all)) ≡ stmts_fit (place l.around l.fn.before) (stmt_trees l.all);
  statements : l.next + statements_count (stmt_trees (drop l.statement-index l.all)) ≡ l.fn.before + statements_count (stmt_trees l.all);
  few : l.next ≤ 4000;
}
