use Rattle.std.proofs.Common.{◌≡◌, ◌∷◌, ◌++◌, map, drop}
use Rattle.std.specs.List.{flat_map}
use Rattle.ped_tree.specs.Views.{value_tree}
use Rattle.ped_symbols.specs.Uses.{used_as, expr_uses}
use Rattle.ped_symbols.specs.declared.uses.Role.TheVariants.{Named}
use Rattle.ped_symbols.proofs.uses.push_constants.Given as goal

abbrev pub invariant-loop-value : goal.invariant-loop-value
invariant-loop-value l = l.uses.items ++ flat_map (λ v. used_as Named v.0 ∷ expr_uses v.1) (map value_tree (drop l.value-index l.values)) ≡ l.initial.uses.items ++ flat_map (λ v. used_as Named v.0 ∷ expr_uses v.1) (map value_tree l.values)
