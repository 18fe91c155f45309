use Rattle.std.proofs.Common.{◌≡◌, ◌++◌, drop}
use Rattle.std.specs.Prelude.{replicate}
use Rattle.ped_tree.specs.Views.{stmt_trees}
use Rattle.ped_tree.specs.Numbering.{statements_count}
use Rattle.ped_blocks.proofs.lines.+push_statement.Given as goal

abbrev pub invariant-push_statements-loop-stmt : goal.invariant-push_statements-loop-stmt
invariant-push_statements-loop-stmt l =
    l.lines.items ++ replicate (statements_count (stmt_trees (drop l.stmt-index l.stmts))) l.line ≡ l.fn.lines.items ++ replicate (statements_count (stmt_trees l.stmts)) l.line
