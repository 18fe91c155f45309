use Rattle.std.proofs.Common.{◌≡◌, ◌+◌, ◌≤◌, ◌++◌, map, drop, length}
use Rattle.ped_tree.specs.Numbering.{statements_count}
use Rattle.ped_tree.specs.Printing.{statements_lines}
use Rattle.ped_tree.specs.Views.{stmt_trees}
use Rattle.ped_print.specs.PrintedLines.{line_of}
use Rattle.ped_print.proofs.nesting.+nesting.Given as goal

abbrev pub invariant-push_statements-loop-statement : goal.invariant-push_statements-loop-statement
invariant-push_statements-loop-statement l = record {
  lines : map line_of l.lines.items ++ statements_lines l.depth (l.begun + 1) (stmt_trees (drop l.statement-index l.all))
      ≡ map line_of l.initial.lines.items ++ statements_lines l.depth (l.fn.before + 1) (stmt_trees l.all);
  longer : length l.initial.lines.items ≤ length l.lines.items;
  behind : l.begun + statements_count (stmt_trees (drop l.statement-index l.all)) ≡ l.fn.before + statements_count (stmt_trees l.all);
  counted : l.begun ≤ length l.lines.items;
}
