-- The shapes of names with their kinds are those of the names alone.
use Rattle.std.proofs.Common.{◌≡◌, ℕ, List, [], ◌∷◌, ◌++◌, map, refl, ap}
use Rattle.std.specs.Option.{option_to_list}
use Rattle.std.specs.List.{flat_map}
use Rattle.ped_symbols.specs.declared.symbols.Kind.{Kind}
use Rattle.ped_symbols.specs.Entries.{entry_of}
use Rattle.ped_eval.specs.Live.{shape_by, shapes_among, shapes_by}

by_names : (kinds es : List (List ℕ × Kind)) → shapes_among kinds (map (λ e. e.0) es) ≡ flat_map (λ e. option_to_list (shape_by e.0 (entry_of kinds e.0))) es
by_names kinds [] = refl
by_names kinds (e ∷ es) = ap (λ more. option_to_list (shape_by e.0 (entry_of kinds e.0)) ++ more) (by_names kinds es)

pub shapes_by_names : (kinds : List (List ℕ × Kind)) → shapes_among kinds (map (λ e. e.0) kinds) ≡ shapes_by kinds
shapes_by_names kinds = by_names kinds kinds
