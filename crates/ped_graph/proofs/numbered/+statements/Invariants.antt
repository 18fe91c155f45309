use Rattle.std.proofs.Common.{◌≡◌, ◌++◌, drop}
use Rattle.ped_tree.specs.Views.{stmt_trees}
use Rattle.ped_tree.specs.Numbering.{all_numbered}
use Rattle.ped_graph.specs.KnownProgram.{trees_of}
use Rattle.ped_graph.proofs.numbered.+statements.Given as goal

abbrev pub invariant-push_all-loop-statement : goal.invariant-push_all-loop-statement
invariant-push_all-loop-statement l =
    trees_of l.statements.items ++ all_numbered (stmt_trees (drop l.statement-index l.body)) ≡ trees_of l.fn.statements.items ++ all_numbered (stmt_trees l.body)
