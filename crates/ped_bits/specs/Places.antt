-- Sets of places below a width: one truth value for each place, in order (plain words).
use Rattle.std.specs.Prelude.{ℕ, List, [], ◌∷◌, Bool, false, ◌&&◌, ◌||◌, not, IsTrue, slice_index_or}

-- the place is in the set
abbrev pub Has : List Bool → ℕ → Type 0
Has row place = IsTrue (slice_index_or row place false)

-- the places that are in one of two sets of equal width
abbrev pub union : List Bool → List Bool → List Bool
union (a ∷ row) (b ∷ other) = (a || b) ∷ union row other
union [] other = []
union (a ∷ row) [] = []

-- the places of the first set that aren't in the second, of equal width
abbrev pub without : List Bool → List Bool → List Bool
without (a ∷ row) (b ∷ other) = (a && not b) ∷ without row other
without [] other = []
without (a ∷ row) [] = []
