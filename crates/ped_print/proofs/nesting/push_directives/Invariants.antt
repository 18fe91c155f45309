use Rattle.std.proofs.Common.{◌≡◌, ◌≤◌, ◌++◌, map, drop, length}
use Rattle.ped_tree.specs.Printing.{directive_lines}
use Rattle.ped_print.specs.PrintedLines.{line_of}
use Rattle.ped_print.proofs.nesting.push_directives.Given as goal

abbrev pub invariant-loop-name : goal.invariant-loop-name
invariant-loop-name l = record {
  lines : map line_of l.lines.items ++ directive_lines (drop l.name-index l.names) ≡ map line_of l.initial.lines.items ++ directive_lines l.names;
  longer : length l.initial.lines.items ≤ length l.lines.items;
}
