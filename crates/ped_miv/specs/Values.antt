-- The values that loops add to the difference of two subscripts, each as a sentence about a whole number (Allen and Kennedy, section 3.3.3; this project).
use Rattle.std.specs.Prelude.{◌≡◌, ◌⊎◌, ◌↔◌, ℤ, pos, ◌+ℤ◌, ◌-ℤ◌, ◌*ℤ◌, ◌≤ℤ◌, ◌<ℤ◌, List, [], ◌∷◌, Option, Some, None, MatchOption, IsTrue, ◌&&◌}
use Rattle.ped_views.specs.declared.directions.Direction.{Direction}
use Rattle.ped_views.specs.declared.directions.Direction.TheVariants.{Before, Same, After}
use Rattle.ped_views.specs.declared.intervals.Interval.{Interval}
use Rattle.ped_views.specs.Whole.{Divides, is_zero}
use Rattle.ped_views.specs.Views.{Range, SubscriptPair, View}
use Rattle.ped_views.specs.Excluded.{InRange, Stands, Indices, IsPoint, difference}

-- l and h are the least and the greatest of the numbers of P
pub record Extreme (P : ℤ → Type 0) (l h : ℤ) : Type 0 where
  pub least : P l
  pub greatest : P h
  pub between : (v : ℤ) → P v → (l ≤ℤ v) × (v ≤ℤ h)

-- the interval from the least to the greatest of the numbers of P, where it has one
abbrev pub AreExtremes : (ℤ → Type 0) → Option Interval → Type 0
AreExtremes P o = MatchOption o ((v : ℤ) → ¬ (P v)) (λ r. Extreme P r.lo r.hi)

-- the numbers of P are the multiples of g
abbrev pub AreMultiples : (ℤ → Type 0) → ℤ → Type 0
AreMultiples P g = (v : ℤ) → Divides g v ↔ P v

-- a sum of a number of P and one of Q
abbrev pub Plus : (ℤ → Type 0) → (ℤ → Type 0) → ℤ → Type 0
Plus P Q v = (x : ℤ) × (y : ℤ) × P x × Q y × (x +ℤ y ≡ v)

-- v is a * i - b * j for some i and j so ordered
pub record FormValue (R : ℤ → ℤ → Type 0) (a b v : ℤ) : Type 0 where
  pub i : ℤ
  pub j : ℤ
  pub stand : R i j
  pub is : a *ℤ i -ℤ b *ℤ j ≡ v

-- i and j lie from lo to hi
abbrev pub InSquare : ℤ → ℤ → ℤ → ℤ → Type 0
InSquare lo hi i j = (lo ≤ℤ i) × (i ≤ℤ hi) × (lo ≤ℤ j) × (j ≤ℤ hi)

-- i and j are one number from lo to hi
abbrev pub OnDiagonal : ℤ → ℤ → ℤ → ℤ → Type 0
OnDiagonal lo hi i j = (lo ≤ℤ i) × (i ≤ℤ hi) × (i ≡ j)

-- i and j lie from lo to hi, the lesser first
abbrev pub InTriangle : ℤ → ℤ → ℤ → ℤ → Type 0
InTriangle lo hi i j = (lo ≤ℤ i) × (i <ℤ j) × (j ≤ℤ hi)

-- the index occurs on neither side, or i and j lie in the range and are in the direction, or in any where there is none
abbrev pub InLoop : Range → Option Direction → ℤ → ℤ → ℤ → ℤ → Type 0
InLoop r (Some d) a b i j = IsTrue (is_zero a && is_zero b) ⊎ (InRange r i × InRange r j × Stands r d i j)
InLoop r None a b i j = IsTrue (is_zero a && is_zero b) ⊎ (InRange r i × InRange r j)

-- what one loop adds to the difference, in a direction
abbrev pub LoopValue : Range → Option Direction → ℤ → ℤ → ℤ → Type 0
LoopValue r d a b v = FormValue (InLoop r d a b) a b v

-- what the common loops add, each in its direction: after the last direction, in any
abbrev pub CommonValue : List Range → List Direction → List ℤ → List ℤ → ℤ → Type 0
CommonValue (r ∷ loops) (d ∷ vector) (a ∷ source) (b ∷ sink) v = Plus (LoopValue r (Some d) a b) (CommonValue loops vector source sink) v
CommonValue (r ∷ loops) [] (a ∷ source) (b ∷ sink) v = Plus (LoopValue r None a b) (CommonValue loops [] source sink) v
CommonValue loops vector source sink v = v ≡ pos 0

-- what the further loops of one side add to its subscript
abbrev pub InnerValue : List Range → List ℤ → ℤ → Type 0
InnerValue (r ∷ loops) (a ∷ row) v = Plus (LoopValue r None a (pos 0)) (InnerValue loops row) v
InnerValue [] row v = v ≡ pos 0
InnerValue (r ∷ loops) [] v = v ≡ pos 0

-- the difference of the subscripts at some point
abbrev pub DifferenceValue : View → SubscriptPair → List Direction → ℤ → Type 0
DifferenceValue v p vector w = (at : Indices) × IsPoint v p vector at × (difference p at ≡ w)

-- i and j are one unknown in a loop with `=`
abbrev pub IsShared : Option Direction → ℤ → ℤ → Type 0
IsShared (Some Before) i j = Unit {0}
IsShared (Some Same) i j = i ≡ j
IsShared (Some After) i j = Unit {0}
IsShared None i j = Unit {0}

-- what the common loops add for whole numbers whatever, where the two indices of a loop with `=` are one
abbrev pub CommonForm : List ℤ → List ℤ → List Direction → ℤ → Type 0
CommonForm (a ∷ source) (b ∷ sink) (d ∷ vector) v = Plus (FormValue (IsShared (Some d)) a b) (CommonForm source sink vector) v
CommonForm (a ∷ source) (b ∷ sink) [] v = Plus (FormValue (IsShared None) a b) (CommonForm source sink []) v
CommonForm [] sink vector v = v ≡ pos 0
CommonForm (a ∷ source) [] vector v = v ≡ pos 0

-- what the further loops of one side add for whole numbers whatever
abbrev pub InnerForm : List ℤ → ℤ → Type 0
InnerForm (a ∷ row) v = Plus (Divides a) (InnerForm row) v
InnerForm [] v = v ≡ pos 0
