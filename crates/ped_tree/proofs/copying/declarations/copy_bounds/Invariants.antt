use Rattle.std.proofs.Common.{◌≡◌, map, take}
use Rattle.ped_tree.specs.Views.{bound_tree}
use Rattle.ped_tree.proofs.copying.declarations.copy_bounds.Given as goal

abbrev pub invariant-loop-bound : goal.invariant-loop-bound
invariant-loop-bound l = map bound_tree l.copies.items ≡ map bound_tree (take l.bound-index l.bounds)
