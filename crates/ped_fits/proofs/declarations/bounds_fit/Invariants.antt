use Rattle.std.proofs.Common.{◌≡◌, map, drop}
use Rattle.std.specs.List.{list_all}
use Rattle.ped_tree.specs.Views.{bound_tree}
use Rattle.ped_tree.specs.Grammar.Fits.{bound_fits}
use Rattle.ped_fits.proofs.declarations.bounds_fit.Given as goal

abbrev pub invariant-loop-bound : goal.invariant-loop-bound
invariant-loop-bound l = list_all bound_fits (map bound_tree (drop l.bound-index l.bounds)) ≡ list_all bound_fits (map bound_tree l.bounds)
