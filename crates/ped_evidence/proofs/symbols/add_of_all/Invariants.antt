use Rattle.std.proofs.Common.{◌≡◌, filter, drop}
use Rattle.std.specs.List.{flat_map}
use Rattle.ped_tree.specs.Names.Collecting.{with_names}
use Rattle.ped_affine.specs.AffineForms.{form_variables}
use Rattle.ped_affine.specs.Arguments.{setting_of, site}
use Rattle.ped_evidence.specs.Kept.{trees_of}
use Rattle.ped_evidence.specs.Symbols.{is_symbol}
use Rattle.ped_evidence.proofs.symbols.add_of_all.Given as goal

abbrev pub invariant-loop-bound : goal.invariant-loop-bound
invariant-loop-bound l = with_names l.names (filter (is_symbol (setting_of l.pair.setting) (site l.pair.source) (site l.pair.sink)) (flat_map form_variables (trees_of (drop l.bound-index l.bounds))))
    ≡ with_names l.fn.names (filter (is_symbol (setting_of l.pair.setting) (site l.pair.source) (site l.pair.sink)) (flat_map form_variables (trees_of l.bounds)))
