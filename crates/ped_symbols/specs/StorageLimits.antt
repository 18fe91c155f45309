-- The limits of what a program stores and refers to: the elements of its arrays, and the ordered pairs of its references. An array whose bounds have no value counts none, and one with a lower bound above its upper bound has none; both are refused by a lesser number (this project).
use Rattle.std.specs.Prelude.{ℕ, ◌+◌, ◌*◌, ℤ, ◌-ℤ◌, unsigned_abs, int_lt, List, [], ◌∷◌, Bool, not, ◌||◌, nat_lt, if◌then◌else◌}
use Rattle.std.specs.List.{list_any, sum_by}
use Rattle.ped_base.specs.Dimensions.{Dimensions}
use Rattle.ped_refs.specs.References.{Reference}
use Rattle.ped_refs.specs.PairLimit.{is_within_pair_limit, references_until}
use Rattle.ped_symbols.specs.Arrays.{Arrays}

-- the most elements of one array
abbrev pub most_elements : ℕ
most_elements = 1048576

-- the most elements of all arrays of a program together
abbrev pub most_elements_together : ℕ
most_elements_together = 8388608

-- the size of a dimension from its lower to its upper bound; 0 where the lower bound is above the upper one (ANSI X3.9-1978, section 5.2.2)
abbrev pub size : ℤ → ℤ → ℕ
size lower upper = if int_lt upper lower then 0 else unsigned_abs (upper -ℤ lower) + 1

-- the product of the sizes of dimensions with these bounds (ANSI X3.9-1978, section 5.2.3)
abbrev pub sizes_product : List ℤ → List ℤ → ℕ
sizes_product [] upper = 1
sizes_product (l ∷ lower) [] = 1
sizes_product (l ∷ lower) (u ∷ upper) = size l u * sizes_product lower upper

-- how many elements an array with these dimensions has (ANSI X3.9-1978, section 5.2.3)
abbrev pub elements : Dimensions → ℕ
elements d = sizes_product d.lower d.upper

-- how many elements arrays have together (this project)
abbrev pub elements_of : Arrays → ℕ
elements_of arrays = sum_by (λ a. elements a.1) arrays

-- one of these arrays has more elements than one may have
abbrev pub has_large : Arrays → Bool
has_large arrays = list_any (λ a. nat_lt most_elements (elements a.1)) arrays

-- arrays have more elements than they may have: one of them by itself, or all together
abbrev pub have_many_elements : Arrays → Bool
have_many_elements arrays = has_large arrays || nat_lt most_elements_together (elements_of arrays)

-- the ordered pairs among the references of the statements up to this number are more than a program may have (Allen and Kennedy, section 3.2; this project)
abbrev pub has_many_pairs : List Reference → ℕ → Bool
has_many_pairs refs number = not (is_within_pair_limit (references_until number refs))
