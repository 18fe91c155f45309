use Rattle.std.proofs.Common.{◌≡◌, ◌+◌, drop}
use Rattle.ped_tree.specs.Views.{stmt_trees}
use Rattle.ped_tree.specs.Numbering.{statements_count}
use Rattle.ped_splits.specs.CodePairs.{two_among}
use Rattle.ped_splits.proofs.neighbours.+pair.Given as goal

abbrev pub invariant-pair_among-loop-place : goal.invariant-pair_among-loop-place
invariant-pair_among-loop-place l = record {
  count : l.next + statements_count (stmt_trees (drop l.place l.statements)) ≡ l.first + statements_count (stmt_trees l.statements);
  two : two_among (stmt_trees (drop l.place l.statements)) l.next l.number ≡ two_among (stmt_trees l.statements) l.first l.number;
}
