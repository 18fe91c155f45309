use Rattle.std.proofs.Common.{◌≡◌, ◌++◌, map, drop}
use Rattle.std.specs.List.{flat_map}
use Rattle.ped_tree.specs.Views.{expr_tree}
use Rattle.ped_symbols.specs.Uses.{target_uses}
use Rattle.ped_symbols.proofs.uses.push_targets.Given as goal

abbrev pub invariant-loop-item : goal.invariant-loop-item
invariant-loop-item l = l.uses.items ++ flat_map target_uses (map expr_tree (drop l.item-index l.items)) ≡ l.initial.uses.items ++ flat_map target_uses (map expr_tree l.items)
