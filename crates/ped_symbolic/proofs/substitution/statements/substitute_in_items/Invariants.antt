use Rattle.std.proofs.Common.{◌≡◌, map, take}
use Rattle.ped_tree.specs.Views.{expr_tree, item_tree}
use Rattle.ped_symbolic.specs.Substitution.{item_substituted}
use Rattle.ped_symbolic.proofs.substitution.statements.substitute_in_items.Given as goal

abbrev pub invariant-loop-item : goal.invariant-loop-item
invariant-loop-item l = map item_tree l.new.items ≡ map (item_substituted l.name (expr_tree l.by)) (map item_tree (take l.item-index l.items))
