use Rattle.std.proofs.Common.{◌≡◌, ◌++◌, map, drop}
use Rattle.ped_tree.specs.Views.{expr_tree, pack_exprs}
use Rattle.ped_symbols.specs.Uses.{exprs_uses}
use Rattle.ped_symbols.proofs.uses.+push_exprs.Given as goal

abbrev pub invariant-push_exprs-loop-e : goal.invariant-push_exprs-loop-e
invariant-push_exprs-loop-e l = l.uses.items ++ exprs_uses (pack_exprs (map expr_tree (drop l.e-index l.exprs))) ≡ l.initial.uses.items ++ exprs_uses (pack_exprs (map expr_tree l.exprs))
