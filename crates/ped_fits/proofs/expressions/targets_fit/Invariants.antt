use Rattle.std.proofs.Common.{◌≡◌, map, drop}
use Rattle.std.specs.List.{list_all}
use Rattle.ped_tree.specs.Views.{expr_tree}
use Rattle.ped_tree.specs.Grammar.Fits.{target_fits}
use Rattle.ped_fits.proofs.expressions.targets_fit.Given as goal

abbrev pub invariant-loop-e : goal.invariant-loop-e
invariant-loop-e l = list_all target_fits (map expr_tree (drop l.e-index l.exprs)) ≡ list_all target_fits (map expr_tree l.exprs)
