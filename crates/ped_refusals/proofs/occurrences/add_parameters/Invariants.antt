use Rattle.std.proofs.Common.{◌≡◌, ◌∷◌, map, drop}
use Rattle.std.specs.List.{flat_map}
use Rattle.ped_tree.specs.NamesIn.{expr_names}
use Rattle.ped_tree.specs.Views.{value_tree}
use Rattle.ped_tree.specs.Names.Collecting.{with_names}
use Rattle.ped_refusals.proofs.occurrences.add_parameters.Given as goal

abbrev pub invariant-loop-constant : goal.invariant-loop-constant
invariant-loop-constant l = with_names l.names (flat_map (λ v. v.0 ∷ expr_names v.1) (map value_tree (drop l.constant-index l.constants))) ≡ with_names l.initial.names (flat_map (λ v. v.0 ∷ expr_names v.1) (map value_tree l.constants))
