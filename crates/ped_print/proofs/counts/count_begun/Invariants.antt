use Rattle.std.proofs.Common.{◌≡◌, ◌+◌, map, drop}
use Rattle.ped_tree.specs.Printing.{begun_in}
use Rattle.ped_print.specs.PrintedLines.{line_of}
use Rattle.ped_print.proofs.counts.count_begun.Given as goal

abbrev pub invariant-loop-line : goal.invariant-loop-line
invariant-loop-line l = l.total + begun_in (map line_of (drop l.line-index l.lines)) ≡ begun_in (map line_of l.lines)
