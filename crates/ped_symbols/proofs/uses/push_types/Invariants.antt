use Rattle.std.proofs.Common.{◌≡◌, ◌++◌, map, drop}
use Rattle.std.specs.List.{flat_map}
use Rattle.ped_tree.specs.Views.{declarator_tree}
use Rattle.ped_symbols.specs.Uses.{type_uses}
use Rattle.ped_symbols.proofs.uses.push_types.Given as goal

abbrev pub invariant-loop-declarator : goal.invariant-loop-declarator
invariant-loop-declarator l = l.uses.items ++ flat_map type_uses (map declarator_tree (drop l.declarator-index l.declarators)) ≡ l.initial.uses.items ++ flat_map type_uses (map declarator_tree l.declarators)
