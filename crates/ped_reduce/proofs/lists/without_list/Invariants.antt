use Rattle.std.proofs.Common.{◌≡◌, drop}
use Rattle.ped_tree.specs.Views.{stmt_trees}
use Rattle.ped_reduce.specs.Lists.{without_list}
use Rattle.ped_reduce.proofs.lists.without_list.Given as goal

abbrev pub invariant-loop-place : goal.invariant-loop-place
invariant-loop-place l = without_list (stmt_trees (drop l.place l.body)) ≡ without_list (stmt_trees l.body)
