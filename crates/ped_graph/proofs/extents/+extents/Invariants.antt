use Rattle.std.proofs.Common.{◌≡◌, ◌<◌, ◌^◌, ◌++◌, map, drop}
use Rattle.ped_tree.specs.Views.{stmt_trees}
use Rattle.ped_tree.specs.Numbering.{all_numbered, statement_count, statements_count}
use Rattle.ped_graph.proofs.extents.+extents.Given as goal

abbrev pub invariant-push_all-loop-statement : goal.invariant-push_all-loop-statement
invariant-push_all-loop-statement l = record {
  pushed : l.extents.items ++ map statement_count (all_numbered (stmt_trees (drop l.statement-index l.body))) ≡ l.fn.extents.items ++ map statement_count (all_numbered (stmt_trees l.body));
  few : statements_count (stmt_trees (drop l.statement-index l.body)) < 2 ^ 32;
}
