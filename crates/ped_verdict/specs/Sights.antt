-- What is found once of a position of a view, and what it excludes. Only contracts of private functions use it.
use Rattle.std.specs.Prelude.{◌≡◌, ◌⊎◌, ℕ, ◌+◌, ◌-◌, ◌≤◌, ◌<◌, List, [], ◌++◌, length, Option, Some, false, slice_index_or, slice_get, IsTrue, All, Any}
use Rattle.std.specs.Bool.{IsFalse}
use Rattle.ped_views.specs.declared.directions.Direction.{Direction}
use Rattle.ped_views.specs.declared.intervals.Interval.{Interval}
use Rattle.ped_views.specs.Views.{SubscriptPair, View}
use Rattle.ped_views.specs.Forms.{other_form, form_of}
use Rattle.ped_views.specs.Limits.{FitsLoops}
use Rattle.ped_views.specs.Excluded.{HasNoSolution, IsBeyondExtremes, Excludes}
use Rattle.ped_miv.specs.declared.bounds.Bounds.{Bounds}
use Rattle.ped_miv.specs.Bounds.{MayBound}
use Rattle.ped_miv.specs.Parts.{AreAllParts, IsRest, MaySum}
use Rattle.ped_verdict.specs.declared.sights.Sight.{Sight}
use Rattle.ped_verdict.specs.Fronts.{is_done, is_asked}

-- what the last common loops add together: of none, of one, and so on, up to all
pub record AreRests (v : View) (p : SubscriptPair) (rests : List (Option Interval)) : Type 0 where
  pub as_many : length rests ≡ length v.loops + 1
  pub each : (j : ℕ) (x : Option Interval) → j ≤ length v.loops → x ≡ slice_index_or rests j x → IsRest v p (length v.loops - j) x

-- the bounds of what the last common loops add together: of none, of one, and so on, up to all
pub record AreAllBounds (v : View) (p : SubscriptPair) (bounds : List (Option Bounds)) : Type 0 where
  pub as_many : length bounds ≡ length v.loops + 1
  pub each : (j : ℕ) (x : Option Bounds) → j ≤ length v.loops → x ≡ slice_index_or bounds j x → MayBound v p (length v.loops - j) x

-- what the loops add, up to which one some occur, and whether the GCD test excludes nothing
pub record IsSight (v : View) (p : SubscriptPair) (s : Sight) : Type 0 where
  pub start : MaySum v p [] s.start
  pub parts : AreAllParts v.loops p.source.common p.sink.common s.parts.items
  pub rests : AreRests v p s.rests.items
  pub bounds : AreAllBounds v p s.bounds.items
  pub deep : s.stage ≤ length v.loops
  pub done : IsTrue (is_done s.stage p)
  pub last : (m : ℕ) → m < s.stage → is_done m p ≡ false
  pub solved : IsTrue s.is_solved → (vector : List Direction) → length vector ≤ 6 → ¬ (HasNoSolution p vector)

-- usable subscripts in several indices
abbrev pub IsOther : SubscriptPair → Type 0
IsOther p = IsTrue p.usable × (other_form ≡ form_of p)

-- the sight of a position of the view with usable subscripts in several indices
pub record IsSightIn (v : View) (s : Sight) : Type 0 where
  pub pair : SubscriptPair
  pub there : slice_get v.positions s.position ≡ Some pair
  pub fits : FitsLoops (length v.loops) (length v.source_inner) (length v.sink_inner) pair
  pub other : IsOther pair
  pub sight : IsSight v pair s

-- the sights of those of the first k positions that have usable subscripts in several indices
pub record AreSights (v : View) (k : ℕ) (sights : List Sight) : Type 0 where
  pub each : All (IsSightIn v) sights
  pub all : (j : ℕ) (p : SubscriptPair) → j < k → slice_get v.positions j ≡ Some p → IsOther p → Any (λ s. s.position ≡ j) sights

-- some position with usable subscripts in several indices excludes the vector
pub record OtherExcludes (v : View) (vector : List Direction) : Type 0 where
  pub place : ℕ
  pub pair : SubscriptPair
  pub there : slice_get v.positions place ≡ Some pair
  pub form : other_form ≡ form_of pair
  pub excludes : Excludes v pair vector

-- Banerjee's test excludes the front, or it has directions of as many loops as the stage and the GCD test does
abbrev pub IsShut : View → SubscriptPair → ℕ → List Direction → Type 0
IsShut v p stage front = IsBeyondExtremes v p front ⊎ ((length front ≡ stage) × HasNoSolution p front)

-- the position of the sight is asked about the front, and excludes it
pub record Shuts (v : View) (front : List Direction) (s : Sight) : Type 0 where
  pub pair : SubscriptPair
  pub there : slice_get v.positions s.position ≡ Some pair
  pub asked : IsTrue (is_asked pair (length front))
  pub shut : IsShut v pair s.stage front

-- Banerjee's test excludes a vector over all common loops with the front
abbrev pub SomeBeyond : View → SubscriptPair → List Direction → Type 0
SomeBeyond v p front = (rest : List Direction) × (length rest + length front ≡ length v.loops) × IsBeyondExtremes v p (front ++ rest)

-- the front has no direction of some loop that occurs, and the GCD test may exclude a vector, or Banerjee's test one with the front
abbrev pub IsOpen : View → SubscriptPair → Sight → List Direction → Type 0
IsOpen v p s front = (length front < s.stage) × (IsFalse s.is_solved ⊎ SomeBeyond v p front)

-- the position of the sight leaves it open which vectors with the front it excludes
pub record StaysOpen (v : View) (front : List Direction) (s : Sight) : Type 0 where
  pub pair : SubscriptPair
  pub there : slice_get v.positions s.position ≡ Some pair
  pub undecided : IsOpen v pair s front

-- the position of the sight excludes no vector with the front
abbrev pub IsFree : View → Sight → List Direction → Type 0
IsFree v s front = (p : SubscriptPair) → slice_get v.positions s.position ≡ Some p → (rest : List Direction) → ¬ (Excludes v p (front ++ rest))
