use Rattle.std.proofs.Common.{◌≡◌, ◌+◌, drop}
use Rattle.ped_tree.specs.Views.{stmt_trees, do_tree}
use Rattle.ped_tree.specs.Numbering.{statements_count}
use Rattle.ped_rules.specs.ped_steps.specs.Replacing.{followed}
use Rattle.ped_splits.specs.CodePairs.{all_joined}
use Rattle.ped_splits.proofs.joining.+joined.Given as goal

abbrev pub invariant-joined_among-loop-place : goal.invariant-joined_among-loop-place
invariant-joined_among-loop-place l = record {
  count : l.next + statements_count (stmt_trees (drop l.place l.statements)) ≡ l.first + statements_count (stmt_trees l.statements);
  joined : followed (stmt_trees l.all.items) (all_joined (do_tree l.joint.new.now) l.joint.number (stmt_trees (drop l.place l.statements)) l.next) ≡ all_joined (do_tree l.joint.new.now) l.joint.number (stmt_trees l.statements) l.first;
}
