use Rattle.std.proofs.Common.{◌≡◌, map, drop}
use Rattle.ped_tree.specs.Views.{value_tree}
use Rattle.ped_tree.specs.Names.Collecting.{with_names}
use Rattle.ped_refs.proofs.constants.add_first_parts.Given as goal

abbrev pub invariant-loop-value : goal.invariant-loop-value
invariant-loop-value l = with_names l.names (map (λ v. v.0) (map value_tree (drop l.value-index l.values))) ≡ with_names l.initial.names (map (λ v. v.0) (map value_tree l.values))
