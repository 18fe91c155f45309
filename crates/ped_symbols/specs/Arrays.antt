-- The bounds of arrays, by the named constants that hold where they are declared (ANSI X3.9-1978, section 5.1).
use Rattle.std.specs.Prelude.{ℕ, ℤ, List, [], ◌∷◌, length, nat_le, ◌&&◌, Option, Some, None, if◌then◌else◌}
use Rattle.std.specs.List.{flat_map}
use Rattle.ped_base.specs.Dimensions.{Dimensions}
use Rattle.ped_base.specs.Lists.{has_some}
use Rattle.ped_tree.specs.Tree.{BoundTree, DeclaratorTree, DeclTree}
use Rattle.ped_tree.specs.Grammar.LimitNumbers.{most_dimensions}
use Rattle.ped_symbols.specs.Values.{Values, fixed_value, declarators}

-- arrays with their bounds, in order
abbrev pub Arrays : Type 0
Arrays = List (List ℕ × Dimensions)

-- the bounds of one more dimension before others (ANSI X3.9-1978, section 5.1.1)
abbrev pub with_dimension : Option ℤ → Option ℤ → Option Dimensions → Option Dimensions
with_dimension (Some lower) (Some upper) (Some d) = Some (record { lower = lower ∷ d.lower; upper = upper ∷ d.upper })
with_dimension (Some lower) (Some upper) None = None
with_dimension (Some lower) None d = None
with_dimension None upper d = None

-- the values of the bounds of an array, where all have one (ANSI X3.9-1978, section 5.1.1.1)
abbrev pub bounds_values : Values → List BoundTree → Option Dimensions
bounds_values values [] = Some (record { lower = []; upper = [] })
bounds_values values (b ∷ bs) = with_dimension (fixed_value values b.lower) (fixed_value values b.upper) (bounds_values values bs)

-- a name with its bounds, where they are known (plain words)
abbrev pub with_bounds : List ℕ → Option Dimensions → Arrays
with_bounds x None = []
with_bounds x (Some d) = (x, d) ∷ []

-- the array of a name with these bounds: one dimension or more, and no more than an array may have (ANSI X3.9-1978, section 5.1.1)
abbrev pub by_bounds : Values → List ℕ → List BoundTree → Arrays
by_bounds values x bounds = if has_some bounds && nat_le (length bounds) most_dimensions then with_bounds x (bounds_values values bounds) else []

-- the array that a declarator declares (ANSI X3.9-1978, section 5.1.1)
abbrev pub arrays_of : Values → DeclaratorTree → Arrays
arrays_of values d = by_bounds values d.name d.bounds

-- the arrays of a declaration (ANSI X3.9-1978, sections 8.1, 8.4.1)
abbrev pub arrays_in : Values → DeclTree → Arrays
arrays_in values d = flat_map (arrays_of values) (declarators d)
