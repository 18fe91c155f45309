use Rattle.std.proofs.Common.{◌≡◌, map, drop}
use Rattle.std.specs.List.{list_all}
use Rattle.ped_tree.specs.Views.{value_tree}
use Rattle.ped_tree.specs.Grammar.Fits.{constant_fits}
use Rattle.ped_fits.proofs.declarations.constants_fit.Given as goal

abbrev pub invariant-loop-value : goal.invariant-loop-value
invariant-loop-value l = list_all constant_fits (map value_tree (drop l.value-index l.values)) ≡ list_all constant_fits (map value_tree l.values)
