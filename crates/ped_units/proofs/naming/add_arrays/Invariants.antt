use Rattle.std.proofs.Common.{◌≡◌, map, drop}
use Rattle.std.specs.List.{flat_map}
use Rattle.ped_tree.specs.Views.{declarator_tree}
use Rattle.ped_tree.specs.Names.Collecting.{with_names}
use Rattle.ped_valid.specs.ped_symbols.specs.Uses.{dimension_uses}
use Rattle.ped_valid.specs.ped_symbols.specs.Declarations.{is_dimensioning, names_with}
use Rattle.ped_units.proofs.naming.add_arrays.Given as goal

abbrev pub invariant-loop-d : goal.invariant-loop-d
invariant-loop-d l =
    with_names l.arrays (names_with is_dimensioning (flat_map dimension_uses (map declarator_tree (drop l.d-index l.declared))))
    ≡ with_names l.initial.arrays (names_with is_dimensioning (flat_map dimension_uses (map declarator_tree l.declared)))
