use Rattle.std.proofs.Common.{◌≡◌, map, drop}
use Rattle.ped_tree.specs.Views.{value_tree}
use Rattle.ped_tree.specs.Names.Collecting.{with_names}
use Rattle.ped_refusals.proofs.occurrences.add_first_parts.Given as goal

abbrev pub invariant-loop-constant : goal.invariant-loop-constant
invariant-loop-constant l = with_names l.names (map (λ v. v.0) (map value_tree (drop l.constant-index l.constants))) ≡ with_names l.initial.names (map (λ v. v.0) (map value_tree l.constants))
