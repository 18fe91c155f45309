use Rattle.std.proofs.Common.{◌≡◌, map, take}
use Rattle.ped_tree.specs.Views.{stmt_tree}
use Rattle.ped_units.specs.Units.{with_calls}
use Rattle.ped_units.specs.Refusals.{using_arguments}
use Rattle.ped_units.proofs.naming.+without_calls.Given as goal

abbrev pub invariant-without_calls-loop-statement : goal.invariant-without_calls-loop-statement
invariant-without_calls-loop-statement l = map stmt_tree l.copies.items ≡ map (with_calls (using_arguments l.arrays)) (map stmt_tree (take l.statement-index l.statements))
