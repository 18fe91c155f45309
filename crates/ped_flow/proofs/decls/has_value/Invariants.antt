use Rattle.std.proofs.Common.{◌≡◌, map, drop}
use Rattle.ped_base.specs.Lists.{is_among}
use Rattle.ped_tree.specs.Views.{value_tree}
use Rattle.ped_flow.proofs.decls.has_value.Given as goal

abbrev pub invariant-loop-value : goal.invariant-loop-value
invariant-loop-value l = is_among l.name (map (λ v. v.0) (map value_tree (drop l.value-index l.values))) ≡ is_among l.name (map (λ v. v.0) (map value_tree l.values))
