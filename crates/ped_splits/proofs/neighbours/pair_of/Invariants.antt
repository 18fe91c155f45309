use Rattle.std.proofs.Common.{◌≡◌, drop, take}
use Rattle.ped_tree.specs.Views.{stmt_trees}
use Rattle.ped_splits.specs.CodePairs.{next_in, behind_all}
use Rattle.ped_splits.proofs.neighbours.pair_of.Given as goal

abbrev pub invariant-loop-place : goal.invariant-loop-place
invariant-loop-place l = behind_all (stmt_trees (take l.place l.others)) (next_in (stmt_trees (drop l.place l.others))) ≡ next_in (stmt_trees l.others)
