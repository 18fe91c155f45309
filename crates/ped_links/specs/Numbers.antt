-- Numbers of units and of dummy arguments, as the code keeps them (this project).
use Rattle.std.specs.Prelude.{◌≡◌, ℕ, ◌+◌, List, [], ◌∷◌, drop, Bool, Option, Some, None, if◌then◌else◌}
use Rattle.ped_base.specs.Lists.{is_same_text}
use Rattle.ped_units.specs.ped_valid.specs.ped_symbols.specs.Entries.{entry_of, with_entry}
use Rattle.ped_units.specs.Units.{ProgramUnit}

-- the number of the first of these units that has the name, where the first of all has this number
abbrev pub number_among : List ProgramUnit → ℕ → List ℕ → Option ℕ
number_among [] n x = None
number_among (u ∷ us) n x = if is_same_text x u.name then Some n else number_among us (n + 1) x

-- the number of the first subroutine of this name among the units of a file; the main program, which comes first, has none
abbrev pub number_of_unit : List ProgramUnit → List ℕ → Option ℕ
number_of_unit us x = number_among (drop 1 us) 1 x

-- these are the numbers of the subroutines by their names
abbrev pub AreNumbers : List ProgramUnit → List (List ℕ × ℕ) → Type 0
AreNumbers us entries = (x : List ℕ) → (x ≡ [] → ⊥) → entry_of entries x ≡ number_of_unit us x

-- the place of a name in a list, where the first has this place; the first where it occurs there twice
abbrev pub place_among : List (List ℕ) → ℕ → List ℕ → Option ℕ
place_among [] n x = None
place_among (y ∷ ys) n x = if is_same_text x y then Some n else place_among ys (n + 1) x

-- these are the places of the names of a list
abbrev pub ArePlaces : List (List ℕ) → List (List ℕ × ℕ) → Type 0
ArePlaces names entries = (x : List ℕ) → entry_of entries x ≡ place_among names 0 x

-- the numbers with that of one more unit, where it has a name
abbrev pub with_number : List (List ℕ × ℕ) → Option (List ℕ) → ℕ → List (List ℕ × ℕ)
with_number entries None n = entries
with_number entries (Some x) n = with_entry entries x n
