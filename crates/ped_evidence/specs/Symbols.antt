-- The symbols of a pair of references: variables that have one value throughout an execution of the outermost DO round both (Allen and Kennedy, section 3.1; this project).
use Rattle.std.specs.Prelude.{ℕ, List, [], ◌++◌, filter, is_some, Bool, not, ◌&&◌}
use Rattle.std.specs.List.{flat_map}
use Rattle.ped_tree.specs.Constants.NamedConstants.{value_named}
use Rattle.ped_tree.specs.Names.Collecting.{with_names}
use Rattle.ped_affine.specs.Ranges.{Setting}
use Rattle.ped_affine.specs.AffineForms.{form_variables}
use Rattle.ped_affine.specs.PairViews.{Site, is_other}
use Rattle.ped_evidence.specs.Levels.{Level, levels_of, bounds_in_text}

-- a name that is no constant, no variable of a DO round either reference, and that the outermost DO doesn't assign (Allen and Kennedy, section 3.1)
abbrev pub is_symbol : Setting → Site → Site → List ℕ → Bool
is_symbol s source sink x = not (is_some (value_named s.constants x)) && is_other s source sink x

-- the variables of which the forms of a loop's bounds can be made
abbrev pub names_in_bounds : Level → List (List ℕ)
names_in_bounds v = flat_map form_variables (bounds_in_text v)

-- the variables of which forms can be made in the bounds of the loops round a reference, the outermost first, and in its subscripts
abbrev pub names_at : Setting → Site → List (List ℕ)
names_at s site = flat_map names_in_bounds (levels_of s site.nest) ++ flat_map form_variables site.subscripts

-- the symbols of a pair, each once, in the order in which they come first: those of the source, and then those of the sink (this project)
abbrev pub symbols_of : Setting → Site → Site → List (List ℕ)
symbols_of s source sink = with_names [] (filter (is_symbol s source sink) (names_at s source ++ names_at s sink))
