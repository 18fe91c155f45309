use Rattle.std.proofs.Common.{◌≡◌, ◌++◌, drop}
use Rattle.ped_tree.specs.Views.{stmt_trees}
use Rattle.ped_graph.specs.Guards.{all_guards_in}
use Rattle.ped_graph.proofs.guards.+guards.Given as goal

abbrev pub invariant-push_all-loop-statement : goal.invariant-push_all-loop-statement
invariant-push_all-loop-statement l =
    l.guards.items ++ all_guards_in l.inside (stmt_trees (drop l.statement-index l.body)) ≡ l.fn.guards.items ++ all_guards_in l.inside (stmt_trees l.body)
