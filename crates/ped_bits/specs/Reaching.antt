-- A relation on places, as the rows of a square: an arrow goes from each row's number to the places of the row (plain words).
use Rattle.std.specs.Prelude.{◌≡◌, ℕ, ◌<◌, List, [], ◌∷◌, length, Bool, slice_index_or}
use Rattle.ped_bits.specs.Places.{Has}

-- row i, and the empty row past the last
abbrev pub row_of : List (List Bool) → ℕ → List Bool
row_of rows i = slice_index_or rows i []

-- there is an arrow from i to j
abbrev pub Arrow : List (List Bool) → ℕ → ℕ → Type 0
Arrow rows i j = Has (row_of rows i) j

-- arrows lead from i over these places, in order, to j
abbrev pub IsPath : List (List Bool) → ℕ → List ℕ → ℕ → Type 0
IsPath rows i [] j = Arrow rows i j
IsPath rows i (k ∷ via) j = Arrow rows i k × IsPath rows k via j

-- one arrow or more lead from i to j
abbrev pub Reaches : List (List Bool) → ℕ → ℕ → Type 0
Reaches rows i j = (via : List ℕ) × IsPath rows i via j

-- each row has as many places as there are rows
abbrev pub IsSquare : List (List Bool) → Type 0
IsSquare rows = (i : ℕ) → i < length rows → length (row_of rows i) ≡ length rows
