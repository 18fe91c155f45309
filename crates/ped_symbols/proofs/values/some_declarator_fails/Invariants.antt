use Rattle.std.proofs.Common.{◌≡◌, map, drop}
use Rattle.std.specs.List.{list_any}
use Rattle.ped_tree.specs.Views.{declarator_tree}
use Rattle.ped_symbols.specs.Values.{declarator_fails}
use Rattle.ped_symbols.proofs.values.some_declarator_fails.Given as goal

abbrev pub invariant-loop-declarator : goal.invariant-loop-declarator
invariant-loop-declarator l = list_any (declarator_fails l.consts) (map declarator_tree (drop l.declarator-index l.declarators)) ≡ list_any (declarator_fails l.consts) (map declarator_tree l.declarators)
