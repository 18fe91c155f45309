-- How a set of places is kept in words of 64 bits: place k is bit k % 64 of word k / 64 (this project).
use Rattle.std.specs.Prelude.{◌≡◌, ℕ, zero, suc, ◌+◌, ◌/◌, ◌%◌, ◌≤◌, List, [], ◌∷◌, length, Bool, false, ◌==◌, slice_index_or}
use Rattle.std.specs.Int.{bit_at}

-- word j, and 0 past the last
abbrev pub word : List ℕ → ℕ → ℕ
word words j = slice_index_or words j 0

-- the bit of a place is set
abbrev pub is_set : List ℕ → ℕ → Bool
is_set words place = bit_at (word words (place / 64)) (place % 64) == 1

-- the values of f at 0, 1, 2 and so on, n of them (plain words)
abbrev pub values : (ℕ → Bool) → ℕ → List Bool
values f zero = []
values f (suc n) = f 0 ∷ values (λ k. f (suc k)) n

-- the set of places below the width (plain words)
abbrev pub places_of : ℕ → List ℕ → List Bool
places_of width words = values (is_set words) width

-- there is a word for each place, and no bit is set past the width
pub record IsKept (width : ℕ) (words : List ℕ) : Type 0 where
  pub long : length words ≡ width / 64 + 1
  pub rest : (place : ℕ) → width ≤ place → is_set words place ≡ false
