use Rattle.std.proofs.Common.{◌≡◌, take}
use Rattle.ped_tree.specs.Tree.{no_stmts}
use Rattle.ped_tree.specs.Views.{stmt_trees}
use Rattle.ped_reduce.specs.Lists.{with_list}
use Rattle.ped_reduce.proofs.lists.comments.Given as goal

abbrev pub invariant-loop-name : goal.invariant-loop-name
invariant-loop-name l = stmt_trees l.all.items ≡ with_list (take l.name-index l.names) no_stmts
