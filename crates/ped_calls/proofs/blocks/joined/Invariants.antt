use Rattle.std.proofs.Common.{◌≡◌, ◌++◌, map}
use Rattle.ped_tree.specs.Views.{stmt_tree}
use Rattle.ped_calls.proofs.blocks.joined.Given as goal

abbrev pub invariant-loop-statement : goal.invariant-loop-statement
invariant-loop-statement l = map stmt_tree l.all.items ≡ map stmt_tree l.initial.all.items ++ map stmt_tree l.yielded
