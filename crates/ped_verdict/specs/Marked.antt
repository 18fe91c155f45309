-- How the possible vectors of a view are marked in a row of 3^n places, and the excluded ones. Only contracts of private functions use it.
use Rattle.std.specs.Prelude.{◌≡◌, ◌⊎◌, ◌↔◌, ℕ, ◌+◌, ◌*◌, ◌^◌, ◌<◌, ◌≤◌, List, [], ◌∷◌, ◌++◌, length, Some, slice_get, Bool}
use Rattle.ped_views.specs.declared.directions.Direction.{Direction}
use Rattle.ped_views.specs.declared.directions.Direction.TheVariants.{Before, Same, After}
use Rattle.ped_views.specs.Views.{SubscriptPair, View}
use Rattle.ped_views.specs.Forms.{other_form, form_of}
use Rattle.ped_views.specs.Excluded.{Excludes}
use Rattle.ped_views.specs.Vectors.{IsPossible}
use Rattle.ped_bits.specs.Places.{Has}

-- the place of a direction in the order `<`, `=`, `>`
abbrev pub digit : Direction → ℕ
digit Before = 0
digit Same = 1
digit After = 2

-- the place of a vector in the lexicographic order of all vectors over as many loops
abbrev pub place_of : List Direction → ℕ
place_of [] = 0
place_of (d ∷ vector) = digit d * 3 ^ length vector + place_of vector

-- the vector begins with this front
abbrev pub BeginsWith : List Direction → List Direction → Type 0
BeginsWith front vector = (rest : List Direction) × (front ++ rest ≡ vector)

-- there is a place for each vector over the common loops, at most six, and the row has those of the possible vectors
pub record AreMarked (v : View) (row : List Bool) : Type 0 where
  pub few : length v.loops ≤ 6
  pub wide : length row ≡ 3 ^ length v.loops
  pub marks : (vector : List Direction) → length vector ≡ length v.loops → Has row (place_of vector) ↔ IsPossible v vector

-- the pair has subscripts in one index at most, and excludes the vector
pub record SingleExcludes (v : View) (p : SubscriptPair) (vector : List Direction) : Type 0 where
  pub form : ¬ (other_form ≡ form_of p)
  pub excludes : Excludes v p vector

-- the row has the places of vectors that the positions exclude, with those that one of the first k with E does
pub record AreExcluded (v : View) (E : SubscriptPair → List Direction → Type 0) (k : ℕ) (row : List Bool) : Type 0 where
  pub wide : length row ≡ 3 ^ length v.loops
  pub marked : (vector : List Direction) → length vector ≡ length v.loops → Has row (place_of vector) → ¬ (IsPossible v vector)
  pub unmarked : (vector : List Direction) → length vector ≡ length v.loops → ¬ (Has row (place_of vector))
      → (j : ℕ) (p : SubscriptPair) → j < k → slice_get v.positions j ≡ Some p → ¬ (E p vector)

-- the row has got the places of the vectors over n loops with this front that have E, and no others
pub record AreAdded (n : ℕ) (front : List Direction) (E : List Direction → Type 0) (old new : List Bool) : Type 0 where
  pub wide : length new ≡ length old
  pub marks : (vector : List Direction) → length vector ≡ n → Has new (place_of vector) ↔ (Has old (place_of vector) ⊎ (BeginsWith front vector × E vector))

-- the row has got the places from the first up to the last, which isn't among them
pub record AreSet (first last : ℕ) (old row : List Bool) : Type 0 where
  pub wide : length row ≡ length old
  pub has : (k : ℕ) → Has row k ↔ (Has old k ⊎ ((first ≤ k) × (k < last)))

-- every vector
abbrev pub Each : List Direction → Type 0
Each vector = Unit {0}

-- the one of three answers that is for a direction
abbrev pub chosen : Bool → Bool → Bool → Direction → Bool
chosen before same after Before = before
chosen before same after Same = same
chosen before same after After = after
