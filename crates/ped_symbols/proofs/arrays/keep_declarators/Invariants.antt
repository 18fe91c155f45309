use Rattle.std.proofs.Common.{◌++◌, map, take}
use Rattle.std.specs.List.{flat_map}
use Rattle.ped_tree.specs.Views.{declarator_tree}
use Rattle.ped_symbols.specs.Arrays.{Arrays, arrays_of}
use Rattle.ped_symbols.specs.Passes.{KnowsArrays}
use Rattle.ped_symbols.proofs.arrays.keep_declarators.Given as goal

abbrev pub invariant-loop-declarator : goal.invariant-loop-declarator
invariant-loop-declarator l = (before : Arrays) → KnowsArrays l.initial.arrays before →
    KnowsArrays l.arrays (before ++ flat_map (arrays_of l.consts) (map declarator_tree (take l.declarator-index l.declarators)))
