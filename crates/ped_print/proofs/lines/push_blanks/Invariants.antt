use Rattle.std.proofs.Common.{◌≡◌, ◌++◌}
use Rattle.ped_tree.specs.Printing.{blanks}
use Rattle.ped_print.proofs.lines.push_blanks.Given as goal

abbrev pub invariant-loop-i : goal.invariant-loop-i
invariant-loop-i l = l.out ≡ l.initial.out ++ blanks l._i
