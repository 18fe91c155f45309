use Rattle.std.proofs.Common.{◌≡◌, map, drop}
use Rattle.std.specs.List.{list_all}
use Rattle.ped_tree.specs.Views.{declarator_tree}
use Rattle.ped_tree.specs.Grammar.Fits.{array_fits}
use Rattle.ped_fits.proofs.declarations.arrays_fit.Given as goal

abbrev pub invariant-loop-declarator : goal.invariant-loop-declarator
invariant-loop-declarator l = list_all array_fits (map declarator_tree (drop l.declarator-index l.declarators)) ≡ list_all array_fits (map declarator_tree l.declarators)
