use Rattle.std.proofs.Common.{◌≡◌, map, drop}
use Rattle.std.specs.List.{list_any}
use Rattle.ped_tree.specs.Grammar.Literals.{has_large_literal}
use Rattle.ped_tree.specs.Views.{value_tree}
use Rattle.ped_limits.proofs.literals.constants_have_large_literal.Given as goal

abbrev pub invariant-loop-constant : goal.invariant-loop-constant
invariant-loop-constant l = list_any (λ v. has_large_literal v.1) (map value_tree (drop l.constant-index l.constants)) ≡ list_any (λ v. has_large_literal v.1) (map value_tree l.constants)
