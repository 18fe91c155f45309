use Rattle.std.proofs.Common.{◌≡◌, ◌+◌, drop}
use Rattle.ped_tree.specs.Views.{stmt_trees}
use Rattle.ped_tree.specs.Numbering.{statements_count}
use Rattle.ped_steps.specs.Replacing.{followed}
use Rattle.ped_steps.specs.Placing.{all_placed}
use Rattle.ped_steps.proofs.replacing.+filled.Given as goal

abbrev pub invariant-filled-loop-statement : goal.invariant-filled-loop-statement
invariant-filled-loop-statement l = record {
  number : l.next + statements_count (stmt_trees (drop l.statement-index l.statements)) ≡ l.first + statements_count (stmt_trees l.statements);
  filled : followed (stmt_trees l.all.items) (all_placed l.place (stmt_trees (drop l.statement-index l.statements)) l.next) ≡ all_placed l.place (stmt_trees l.statements) l.first;
}
