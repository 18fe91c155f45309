use Rattle.std.proofs.Common.{List, ℕ, ◌≡◌, ◌++◌, map, take}
use Rattle.ped_base.specs.Lists.{is_among}
use Rattle.ped_tree.specs.Views.{value_tree}
use Rattle.ped_refusals.proofs.contexts.add_names.Given as goal

abbrev pub invariant-loop-name : goal.invariant-loop-name
invariant-loop-name l = (x : List ℕ) → is_among x l.constants ≡ is_among x (l.initial.constants ++ map (λ v. v.0) (map value_tree (take l.name-index l.values)))
