use Rattle.std.proofs.Common.{◌≡◌, map, drop, length}
use Rattle.std.specs.List.{list_any}
use Rattle.std.specs.Prelude.{nat_lt}
use Rattle.ped_tree.specs.Grammar.LimitNumbers.{most_dimensions}
use Rattle.ped_tree.specs.Views.{declarator_tree}
use Rattle.ped_limits.proofs.literals.any_has_many_dimensions.Given as goal

abbrev pub invariant-loop-declarator : goal.invariant-loop-declarator
invariant-loop-declarator l = list_any (λ d. nat_lt most_dimensions (length d.bounds)) (map declarator_tree (drop l.declarator-index l.declarators)) ≡ list_any (λ d. nat_lt most_dimensions (length d.bounds)) (map declarator_tree l.declarators)
