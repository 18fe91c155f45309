use Rattle.std.proofs.Common.{◌≡◌, ◌+◌, ◌++◌, map, drop}
use Rattle.ped_tree.specs.Views.{stmt_trees}
use Rattle.ped_tree.specs.Numbering.{all_numbered, statements_count}
use Rattle.ped_inline.specs.CallsPane.{called_from}
use Rattle.ped_inline.specs.CodeFolding.{called_seen}
use Rattle.ped_inline.proofs.called.+called.Given as goal

abbrev pub invariant-push_all-loop-statement : goal.invariant-push_all-loop-statement
invariant-push_all-loop-statement l = record {
  found : map called_seen l.found.items ++ called_from l.next (all_numbered (stmt_trees (drop l.statement-index l.statements)))
      ≡ map called_seen l.fn.found.items ++ called_from l.fn.next (all_numbered (stmt_trees l.statements));
  next : l.next + statements_count (stmt_trees (drop l.statement-index l.statements)) ≡ l.fn.next + statements_count (stmt_trees l.statements);
}
