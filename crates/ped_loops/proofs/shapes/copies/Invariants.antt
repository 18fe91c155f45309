use Rattle.std.proofs.Common.{◌≡◌, map, take}
use Rattle.ped_tree.specs.Views.{stmt_tree}
use Rattle.ped_loops.proofs.shapes.copies.Given as goal

abbrev pub invariant-loop-statement : goal.invariant-loop-statement
invariant-loop-statement l = map stmt_tree l.all.items ≡ map stmt_tree (take l.statement-index l.statements)
