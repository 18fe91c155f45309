use Rattle.std.proofs.Common.{◌≡◌, drop}
use Rattle.ped_tree.specs.Views.{stmt_trees}
use Rattle.ped_splits.specs.CodePairs.{behind_next}
use Rattle.ped_splits.proofs.joining.behind_next.Given as goal

abbrev pub invariant-loop-place : goal.invariant-loop-place
invariant-loop-place l = behind_next (stmt_trees (drop l.place l.statements)) ≡ behind_next (stmt_trees l.statements)
