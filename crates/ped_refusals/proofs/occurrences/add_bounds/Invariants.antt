use Rattle.std.proofs.Common.{◌≡◌, ◌++◌, map, drop}
use Rattle.std.specs.List.{flat_map}
use Rattle.ped_tree.specs.NamesIn.{expr_names}
use Rattle.ped_tree.specs.Views.{bound_tree}
use Rattle.ped_tree.specs.Names.Collecting.{with_names}
use Rattle.ped_refusals.proofs.occurrences.add_bounds.Given as goal

abbrev pub invariant-loop-bound : goal.invariant-loop-bound
invariant-loop-bound l = with_names l.names (flat_map (λ b. expr_names b.lower ++ expr_names b.upper) (map bound_tree (drop l.bound-index l.bounds))) ≡ with_names l.initial.names (flat_map (λ b. expr_names b.lower ++ expr_names b.upper) (map bound_tree l.bounds))
