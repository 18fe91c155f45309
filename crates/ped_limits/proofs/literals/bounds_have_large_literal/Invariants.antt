use Rattle.std.proofs.Common.{◌≡◌, map, drop}
use Rattle.std.specs.List.{list_any}
use Rattle.std.specs.Prelude.{◌||◌}
use Rattle.ped_tree.specs.Grammar.Literals.{has_large_literal}
use Rattle.ped_tree.specs.Views.{bound_tree}
use Rattle.ped_limits.proofs.literals.bounds_have_large_literal.Given as goal

abbrev pub invariant-loop-bound : goal.invariant-loop-bound
invariant-loop-bound l = list_any (λ b. has_large_literal b.lower || has_large_literal b.upper) (map bound_tree (drop l.bound-index l.bounds)) ≡ list_any (λ b. has_large_literal b.lower || has_large_literal b.upper) (map bound_tree l.bounds)
