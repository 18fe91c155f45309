use Rattle.std.proofs.Common.{◌≡◌, ◌++◌, drop}
use Rattle.ped_tree.specs.Printing.{doubled}
use Rattle.ped_print.proofs.statements.push_doubled.Given as goal

abbrev pub invariant-loop-c : goal.invariant-loop-c
invariant-loop-c l = l.out ++ doubled (drop l.c-index l.text) ≡ l.initial.out ++ doubled l.text
