use Rattle.std.proofs.Common.{◌≡◌, ◌+◌, drop}
use Rattle.ped_tree.specs.Views.{stmt_trees}
use Rattle.ped_tree.specs.Numbering.{all_numbered, at_place, statements_count}
use Rattle.ped_tree.proofs.numbering.+find.Given as goal

abbrev pub invariant-find_among-loop-stmt : goal.invariant-find_among-loop-stmt
invariant-find_among-loop-stmt l = record {
  passed : l.place + statements_count (stmt_trees l.stmts) ≡ l.initial.place + statements_count (stmt_trees (drop l.stmt-index l.stmts));
  rest : at_place (all_numbered (stmt_trees (drop l.stmt-index l.stmts))) l.place ≡ at_place (all_numbered (stmt_trees l.stmts)) l.initial.place;
}
