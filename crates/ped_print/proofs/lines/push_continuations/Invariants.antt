use Rattle.std.proofs.Common.{◌≡◌, ◌-◌, ◌≤◌, ◌++◌, map, codes, length}
use Rattle.std.specs.List.{range_with_len}
use Rattle.ped_tree.specs.Printing.{plain_line, piece, piece_count, continuation_lines}
use Rattle.ped_print.specs.PrintedLines.{line_of}
use Rattle.ped_print.proofs.lines.push_continuations.Given as goal

abbrev pub invariant-loop-number : goal.invariant-loop-number
invariant-loop-number l = record {
  lines : map line_of l.lines.items ++ map (λ k. plain_line (codes "     &" ++ piece l.text k)) (range_with_len l.number (piece_count l.text - l.number))
      ≡ map line_of l.initial.lines.items ++ continuation_lines l.text;
  longer : length l.initial.lines.items ≤ length l.lines.items;
}
