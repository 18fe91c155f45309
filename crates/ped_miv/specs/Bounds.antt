-- The greatest of the least values that loops add to the difference of two subscripts, over all directions, and the least of the greatest (this project).
use Rattle.std.specs.Prelude.{◌≡◌, ℕ, ◌+◌, ◌-◌, ◌*◌, ◌^◌, ◌≤◌, ℤ, ◌≤ℤ◌, List, length, Option, Some, None, MatchOption, unsigned_abs}
use Rattle.ped_views.specs.declared.directions.Direction.{Direction}
use Rattle.ped_views.specs.declared.intervals.Interval.{Interval}
use Rattle.ped_views.specs.Views.{SubscriptPair, View}
use Rattle.ped_miv.specs.declared.bounds.Bounds.{Bounds}
use Rattle.ped_miv.specs.declared.parts.LoopParts.{LoopParts}
use Rattle.ped_miv.specs.Values.{Extreme}
use Rattle.ped_miv.specs.Parts.{CommonFrom, part_of}

-- in each direction the loop's least value is at most the one bound and its greatest at least the other, and both are values
pub record BoundsLoop (parts : LoopParts) (w : Bounds) : Type 0 where
  pub each : (d : Direction) → (x : Interval) × (part_of d parts ≡ Some x) × (x.lo ≤ℤ w.lo) × (w.hi ≤ℤ x.hi)
  pub lo : (d : Direction) × (x : Interval) × (part_of d parts ≡ Some x) × (x.lo ≡ w.lo)
  pub hi : (d : Direction) × (x : Interval) × (part_of d parts ≡ Some x) × (x.hi ≡ w.hi)

-- there are such bounds, or a direction without values
abbrev pub MayBoundLoop : LoopParts → Option Bounds → Type 0
MayBoundLoop parts o = MatchOption o ((d : Direction) × (part_of d parts ≡ None)) (BoundsLoop parts)

-- the directions of all common loops from place k on
abbrev pub AreDirectionsFrom : View → ℕ → List Direction → Type 0
AreDirectionsFrom v k rest = length rest + k ≡ length v.loops

-- the same of what the common loops from place k on add, in any directions
pub record BoundsFrom (v : View) (p : SubscriptPair) (k : ℕ) (w : Bounds) : Type 0 where
  pub each : (rest : List Direction) → AreDirectionsFrom v k rest → (l : ℤ) × (h : ℤ) × Extreme (CommonFrom v p k rest) l h × (l ≤ℤ w.lo) × (w.hi ≤ℤ h)
  pub lo : (rest : List Direction) × AreDirectionsFrom v k rest × (h : ℤ) × Extreme (CommonFrom v p k rest) w.lo h
  pub hi : (rest : List Direction) × AreDirectionsFrom v k rest × (l : ℤ) × Extreme (CommonFrom v p k rest) l w.hi
  pub lo_small : unsigned_abs w.lo ≤ (6 - k) * 2 ^ 94
  pub hi_small : unsigned_abs w.hi ≤ (6 - k) * 2 ^ 94

-- there are such bounds, or directions without values
abbrev pub MayBound : View → SubscriptPair → ℕ → Option Bounds → Type 0
MayBound v p k o = MatchOption o ((rest : List Direction) × AreDirectionsFrom v k rest × ((x : ℤ) → ¬ (CommonFrom v p k rest x))) (BoundsFrom v p k)
