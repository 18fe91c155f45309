-- The bounds of arrays, and how many elements they have together (ANSI X3.9-1978, section 5.1; this project).
use Rattle.std.specs.Prelude.{ℕ, ℤ, int_le, List, [], ◌∷◌, length, Bool, true, false, ◌&&◌}
use Rattle.std.specs.List.{list_all, sum_by}
use Rattle.ped_base.specs.Dimensions.{Dimensions}
use Rattle.ped_symbols.specs.Arrays.{Arrays}
use Rattle.ped_symbols.specs.StorageLimits.{elements}
use Rattle.ped_symbols.specs.declared.symbols.Kind.{Kind}
use Rattle.ped_symbols.specs.declared.symbols.Kind.TheVariants.{Scalar, Array, Constant}
use Rattle.ped_symbols.specs.RightUses.RightUses.{is_rank}
use Rattle.ped_symbols.specs.RightUses.RightLoops.{is_small}

-- there are as many lower as upper bounds, none is too large, and no lower bound is above its upper bound (ANSI X3.9-1978, section 5.1.1.2; this project)
abbrev pub bounds_are_right : List ℤ → List ℤ → Bool
bounds_are_right [] [] = true
bounds_are_right [] (u ∷ upper) = false
bounds_are_right (l ∷ lower) [] = false
bounds_are_right (l ∷ lower) (u ∷ upper) = (is_small l && is_small u && int_le l u) && bounds_are_right lower upper

-- an array has one to seven dimensions, with such bounds (ANSI X3.9-1978, sections 5.1.1, 5.1.1.2)
abbrev pub array_is_right : Dimensions → Bool
array_is_right d = is_rank (length d.lower) && bounds_are_right d.lower d.upper

-- the same of arrays
abbrev pub arrays_are_right : Arrays → Bool
arrays_are_right arrays = list_all (λ a. array_is_right a.1) arrays

-- a name that is an array has such bounds (ANSI X3.9-1978, section 5.1.1)
abbrev pub kind_is_right : Kind → Bool
kind_is_right Scalar = true
kind_is_right (Array d) = array_is_right d
kind_is_right (Constant n) = true

-- the same of names with their kinds
abbrev pub kinds_are_right : List (List ℕ × Kind) → Bool
kinds_are_right kinds = list_all (λ e. kind_is_right e.1) kinds

-- how many elements a name has: none where it is no array (ANSI X3.9-1978, section 5.2.3)
abbrev pub kind_elements : Kind → ℕ
kind_elements Scalar = 0
kind_elements (Array d) = elements d
kind_elements (Constant n) = 0

-- how many elements names have together (this project)
abbrev pub kinds_elements : List (List ℕ × Kind) → ℕ
kinds_elements kinds = sum_by (λ e. kind_elements e.1) kinds
