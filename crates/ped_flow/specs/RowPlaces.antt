-- The places of scalars in rows of bits. Only contracts of private functions use these definitions.
use Rattle.std.specs.Prelude.{◌≡◌, ℕ, List, length, Bool, false, ◌||◌, Option, Some, position, slice_index_or}
use Rattle.ped_base.specs.Lists.{is_same_text, is_among}

-- the place of a name among names: the first that it has
abbrev pub place_of : List (List ℕ) → List ℕ → Option ℕ
place_of names x = position (is_same_text x) names

-- whether a place is in a row
abbrev pub bit : List Bool → ℕ → Bool
bit row i = slice_index_or row i false

-- a row, with the places of these names that have one in addition to those that it had
pub record AreMarked (names : List (List ℕ)) (old new : List Bool) (xs : List (List ℕ)) : Type 0 where
  pub width : length new ≡ length old
  pub marked : (x : List ℕ) (i : ℕ) → place_of names x ≡ Some i → bit new i ≡ (bit old i || is_among x xs)

-- a row has the places of these names and no others of names that have one
abbrev pub IsRowOf : List (List ℕ) → List Bool → List (List ℕ) → Type 0
IsRowOf names row xs = (x : List ℕ) (i : ℕ) → place_of names x ≡ Some i → bit row i ≡ is_among x xs
