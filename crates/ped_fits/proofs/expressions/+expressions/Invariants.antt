use Rattle.std.proofs.Common.{◌≡◌, map, drop}
use Rattle.ped_tree.specs.Views.{expr_tree, pack_exprs}
use Rattle.ped_tree.specs.Grammar.Fits.{exprs_fit}
use Rattle.ped_fits.proofs.expressions.+expressions.Given as goal

abbrev pub invariant-exprs_fit-loop-e : goal.invariant-exprs_fit-loop-e
invariant-exprs_fit-loop-e l = exprs_fit (pack_exprs (map expr_tree (drop l.e-index l.exprs))) ≡ exprs_fit (pack_exprs (map expr_tree l.exprs))
