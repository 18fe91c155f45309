use Rattle.std.proofs.Common.{◌≡◌, take}
use Rattle.ped_tree.specs.Views.{stmt_trees}
use Rattle.ped_reduce.specs.Lists.{with_list}
use Rattle.ped_reduce.proofs.lists.with_list.Given as goal

abbrev pub invariant-loop-statement : goal.invariant-loop-statement
invariant-loop-statement l = stmt_trees l.body.items ≡ with_list l.names (stmt_trees (take l.statement-index l.d.body.items))
