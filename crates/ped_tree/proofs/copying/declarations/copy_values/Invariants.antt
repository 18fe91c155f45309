use Rattle.std.proofs.Common.{◌≡◌, map, take}
use Rattle.ped_tree.specs.Views.{value_tree}
use Rattle.ped_tree.proofs.copying.declarations.copy_values.Given as goal

abbrev pub invariant-loop-name : goal.invariant-loop-name
invariant-loop-name l = map value_tree l.copies.items ≡ map value_tree (take l.name-index l.values)
