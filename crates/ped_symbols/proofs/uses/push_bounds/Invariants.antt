use Rattle.std.proofs.Common.{◌≡◌, ◌++◌, map, drop}
use Rattle.std.specs.List.{flat_map}
use Rattle.ped_tree.specs.Views.{bound_tree}
use Rattle.ped_symbols.specs.Uses.{expr_uses}
use Rattle.ped_symbols.proofs.uses.push_bounds.Given as goal

abbrev pub invariant-loop-bound : goal.invariant-loop-bound
invariant-loop-bound l = l.uses.items ++ flat_map (λ b. expr_uses b.lower ++ expr_uses b.upper) (map bound_tree (drop l.bound-index l.bounds)) ≡ l.initial.uses.items ++ flat_map (λ b. expr_uses b.lower ++ expr_uses b.upper) (map bound_tree l.bounds)
