-- The scalars and arrays of a program, and the order of an array's elements (ANSI X3.9-1978, sections 5.2.4, 5.4; this project).
use Rattle.std.specs.Prelude.{ℕ, zero, suc, ℤ, pos, negsuc, ◌+ℤ◌, ◌-ℤ◌, int_le, List, [], ◌∷◌, map, Bool, true, false, ◌&&◌}
use Rattle.std.specs.List.{flat_map}
use Rattle.ped_base.specs.Dimensions.{Dimensions}

-- subscripts lie within these lower and upper bounds, one for each (ANSI X3.9-1978, section 5.4.2)
abbrev pub are_within : List ℤ → List ℤ → List ℤ → Bool
are_within [] [] [] = true
are_within (lower ∷ lowers) (upper ∷ uppers) (j ∷ js) = (int_le lower j && int_le j upper) && are_within lowers uppers js
are_within lowers uppers js = false

-- subscripts lie within the bounds of an array (ANSI X3.9-1978, section 5.4.2)
abbrev pub is_within : Dimensions → List ℤ → Bool
is_within bounds subscripts = are_within bounds.lower bounds.upper subscripts

-- a whole number that isn't negative, 0 for one that is (plain words)
abbrev pub natural : ℤ → ℕ
natural (pos n) = n
natural (negsuc n) = 0

-- how many values a subscript may have (ANSI X3.9-1978, section 5.2.3)
abbrev pub extent : ℤ → ℤ → ℕ
extent lower upper = natural (upper -ℤ lower +ℤ pos 1)

-- n whole numbers from a first one on (plain words)
abbrev pub numbers_from : ℤ → ℕ → List ℤ
numbers_from first zero = []
numbers_from first (suc n) = first ∷ numbers_from (first +ℤ pos 1) n

-- all subscripts within these bounds in storage order: the first changes fastest (ANSI X3.9-1978, section 5.2.4)
abbrev pub all_within : List ℤ → List ℤ → List (List ℤ)
all_within (lower ∷ lowers) (upper ∷ uppers) = flat_map (λ rest. map (λ j. j ∷ rest) (numbers_from lower (extent lower upper))) (all_within lowers uppers)
all_within lowers uppers = [] ∷ []

-- the subscripts of an array's elements in storage order (ANSI X3.9-1978, section 5.2.4)
abbrev pub elements_of : Dimensions → List (List ℤ)
elements_of bounds = all_within bounds.lower bounds.upper
