-- What the code makes of a program's names: the shapes of its store, and the rows of its live-out variables (this project).
use Rattle.std.specs.Prelude.{ℕ, List, map, Option, Some, None}
use Rattle.std.specs.List.{flat_map}
use Rattle.std.specs.Option.{option_to_list}
use Rattle.ped_symbols.specs.declared.symbols.Kind.{Kind}
use Rattle.ped_symbols.specs.declared.symbols.Kind.TheVariants.{Scalar, Array, Constant}
use Rattle.ped_symbols.specs.Entries.{entry_of}
use Rattle.ped_store.specs.declared.shapes.Shape.{Shape}
use Rattle.ped_store.specs.Memories.{Memory}
use Rattle.ped_store.specs.Variables.{no_dimensions, values_of}
use Rattle.ped_eval.specs.Outcomes.{LiveRow}

-- the row of a variable by what a store keeps
abbrev pub row_in : Memory → List ℕ → LiveRow
row_in m x = record { name = x; values = values_of (m.bounds x) x m.cells }

-- the rows of variables
abbrev pub rows_in : Memory → List (List ℕ) → List LiveRow
rows_in m names = map (row_in m) names

-- the shape of a name; none where it is neither a scalar nor an array
abbrev pub shape_by : List ℕ → Option Kind → Option Shape
shape_by x None = None
shape_by x (Some Scalar) = Some (record { name = x; bounds = no_dimensions })
shape_by x (Some (Array bounds)) = Some (record { name = x; bounds = bounds })
shape_by x (Some (Constant n)) = None

-- the shapes of names, by names with their kinds
abbrev pub shapes_among : List (List ℕ × Kind) → List (List ℕ) → List Shape
shapes_among kinds names = flat_map (λ x. option_to_list (shape_by x (entry_of kinds x))) names

-- the shapes of names with their kinds
abbrev pub shapes_by : List (List ℕ × Kind) → List Shape
shapes_by kinds = flat_map (λ e. option_to_list (shape_by e.0 (entry_of kinds e.0))) kinds
