use Rattle.std.proofs.Common.{◌≡◌, ◌++◌, drop}
use Rattle.ped_tree.specs.Views.{stmt_trees}
use Rattle.ped_reduce.specs.Lists.{list_of}
use Rattle.ped_reduce.proofs.lists.list_of.Given as goal

abbrev pub invariant-loop-statement : goal.invariant-loop-statement
invariant-loop-statement l = l.names.items ++ list_of (stmt_trees (drop l.statement-index l.body)) ≡ list_of (stmt_trees l.body)
