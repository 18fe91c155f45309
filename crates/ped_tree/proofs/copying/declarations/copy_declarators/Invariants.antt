use Rattle.std.proofs.Common.{◌≡◌, map, take}
use Rattle.ped_tree.specs.Views.{declarator_tree}
use Rattle.ped_tree.proofs.copying.declarations.copy_declarators.Given as goal

abbrev pub invariant-loop-declarator : goal.invariant-loop-declarator
invariant-loop-declarator l = map declarator_tree l.copies.items ≡ map declarator_tree (take l.declarator-index l.declarators)
