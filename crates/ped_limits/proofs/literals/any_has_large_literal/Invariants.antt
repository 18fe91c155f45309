use Rattle.std.proofs.Common.{◌≡◌, map, drop}
use Rattle.std.specs.List.{list_any}
use Rattle.ped_tree.specs.Grammar.Literals.{has_large_literal}
use Rattle.ped_tree.specs.Views.{expr_tree}
use Rattle.ped_limits.proofs.literals.any_has_large_literal.Given as goal

abbrev pub invariant-loop-item : goal.invariant-loop-item
invariant-loop-item l = list_any has_large_literal (map expr_tree (drop l.item-index l.items)) ≡ list_any has_large_literal (map expr_tree l.items)
