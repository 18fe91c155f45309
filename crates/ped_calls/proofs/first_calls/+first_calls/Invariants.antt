use Rattle.std.proofs.Common.{◌≡◌, ◌-◌, map, drop}
use Rattle.ped_tree.specs.Views.{stmt_tree, stmt_trees}
use Rattle.ped_links.specs.ped_units.specs.Expanding.{behind_stmts}
use Rattle.ped_links.specs.ped_units.specs.Verdicts.{calls_count, first_calls}
use Rattle.ped_calls.proofs.first_calls.+first_calls.Given as goal

abbrev pub invariant-first_calls-loop-statement : goal.invariant-first_calls-loop-statement
invariant-first_calls-loop-statement l = record {
  kept : behind_stmts (map stmt_tree l.copies.items) (first_calls l.left (stmt_trees (drop l.statement-index l.statements))) ≡ first_calls l.initial.left (stmt_trees l.statements);
  left : l.left - calls_count (stmt_trees (drop l.statement-index l.statements)) ≡ l.initial.left - calls_count (stmt_trees l.statements);
}
