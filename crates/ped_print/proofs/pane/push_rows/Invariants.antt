use Rattle.std.proofs.Common.{◌≡◌, suc, ◌++◌, map, drop}
use Rattle.ped_tree.specs.SourcePane as Spec
use Rattle.ped_print.specs.PrintedLines.{line_of}
use Rattle.ped_print.proofs.pane.push_rows.Given as goal

abbrev pub invariant-loop-i : goal.invariant-loop-i
invariant-loop-i l =
    l.out ++ Spec.source_rows (suc l.i) (map line_of (drop l.i l.lines)) ≡ l.initial.out ++ Spec.source_rows 1 (map line_of l.lines)
