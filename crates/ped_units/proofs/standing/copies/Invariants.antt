use Rattle.std.proofs.Common.{◌≡◌, map, take}
use Rattle.ped_tree.specs.Views.{expr_tree}
use Rattle.ped_units.proofs.standing.copies.Given as goal

abbrev pub invariant-loop-e : goal.invariant-loop-e
invariant-loop-e l = map expr_tree l.copies.items ≡ map expr_tree (take l.e-index l.exprs)
