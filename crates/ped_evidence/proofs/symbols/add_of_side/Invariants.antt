use Rattle.std.proofs.Common.{◌≡◌, ◌++◌, filter, map, drop}
use Rattle.std.specs.List.{flat_map}
use Rattle.ped_tree.specs.Views.{expr_tree}
use Rattle.ped_tree.specs.Names.Collecting.{with_names}
use Rattle.ped_affine.specs.AffineForms.{form_variables}
use Rattle.ped_affine.specs.Arguments.{setting_of, site}
use Rattle.ped_evidence.specs.Kept.{levels_kept}
use Rattle.ped_evidence.specs.Symbols.{is_symbol, names_in_bounds}
use Rattle.ped_evidence.proofs.symbols.add_of_side.Given as goal

abbrev pub invariant-loop-level : goal.invariant-loop-level
invariant-loop-level l =
    with_names l.names (filter (is_symbol (setting_of l.pair.setting) (site l.pair.source) (site l.pair.sink)) (flat_map names_in_bounds (levels_kept (drop l.level-index l.levels)) ++ flat_map form_variables (map expr_tree l.subscripts)))
    ≡ with_names l.fn.names (filter (is_symbol (setting_of l.pair.setting) (site l.pair.source) (site l.pair.sink)) (flat_map names_in_bounds (levels_kept l.levels) ++ flat_map form_variables (map expr_tree l.subscripts)))

abbrev pub invariant-loop-subscript : goal.invariant-loop-subscript
invariant-loop-subscript l =
    with_names l.names (filter (is_symbol (setting_of l.pair.setting) (site l.pair.source) (site l.pair.sink)) (flat_map form_variables (map expr_tree (drop l.subscript-index l.subscripts))))
    ≡ with_names l.fn.names (filter (is_symbol (setting_of l.pair.setting) (site l.pair.source) (site l.pair.sink)) (flat_map names_in_bounds (levels_kept l.levels) ++ flat_map form_variables (map expr_tree l.subscripts)))
