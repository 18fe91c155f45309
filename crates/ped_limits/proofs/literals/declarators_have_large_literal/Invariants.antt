use Rattle.std.proofs.Common.{◌≡◌, map, drop}
use Rattle.std.specs.List.{list_any}
use Rattle.ped_tree.specs.Grammar.Literals.{declarator_has_large_literal}
use Rattle.ped_tree.specs.Views.{declarator_tree}
use Rattle.ped_limits.proofs.literals.declarators_have_large_literal.Given as goal

abbrev pub invariant-loop-declarator : goal.invariant-loop-declarator
invariant-loop-declarator l = list_any declarator_has_large_literal (map declarator_tree (drop l.declarator-index l.declarators)) ≡ list_any declarator_has_large_literal (map declarator_tree l.declarators)
