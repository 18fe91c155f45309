-- What the loops of a view add to the difference of two subscripts, found once for each position (this project).
use Rattle.std.specs.Prelude.{◌≡◌, ℕ, ◌+◌, ◌-◌, ◌*◌, ◌<◌, ◌^◌, ℤ, pos, ◌+ℤ◌, List, [], ◌++◌, length, drop, Option, Some, None, IfSome, MatchOption, slice_index_or}
use Rattle.ped_views.specs.declared.directions.Direction.{Direction}
use Rattle.ped_views.specs.declared.directions.Direction.TheVariants.{Before, Same, After}
use Rattle.ped_views.specs.declared.intervals.Interval.{Interval}
use Rattle.ped_views.specs.Intervals.{IsWithin}
use Rattle.ped_views.specs.Views.{Range, SubscriptPair, View}
use Rattle.ped_miv.specs.declared.parts.LoopParts.{LoopParts}
use Rattle.ped_miv.specs.Values.{Extreme, AreExtremes, LoopValue, CommonValue, DifferenceValue}

-- the extremes of what a loop adds in a direction, which are small
pub record IsPart (r : Range) (d : Option Direction) (a b : ℤ) (part : Option Interval) : Type 0 where
  pub extremes : AreExtremes (LoopValue r d a b) part
  pub small : IfSome part (λ x. IsWithin (2 ^ 94) x)

-- what a loop adds in any direction, and in each
pub record AreParts (r : Range) (a b : ℤ) (parts : LoopParts) : Type 0 where
  pub any : IsPart r None a b parts.any
  pub before : IsPart r (Some Before) a b parts.before
  pub same : IsPart r (Some Same) a b parts.same
  pub after : IsPart r (Some After) a b parts.after

-- what the loop at place k adds
abbrev pub ArePartsAt : List Range → List ℤ → List ℤ → ℕ → LoopParts → Type 0
ArePartsAt loops source sink k parts = (r : Range) → r ≡ slice_index_or loops k r → AreParts r (slice_index_or source k (pos 0)) (slice_index_or sink k (pos 0)) parts

-- what each loop adds
pub record AreAllParts (loops : List Range) (source sink : List ℤ) (parts : List LoopParts) : Type 0 where
  pub as_many : length parts ≡ length loops
  pub each : (k : ℕ) (x : LoopParts) → k < length loops → x ≡ slice_index_or parts k x → ArePartsAt loops source sink k x

-- what the common loops from place k on add, in these directions
abbrev pub CommonFrom : View → SubscriptPair → ℕ → List Direction → ℤ → Type 0
CommonFrom v p k rest x = CommonValue (drop k v.loops) rest (drop k p.source.common) (drop k p.sink.common) x

-- the extremes of what the common loops from place k on add in any directions
pub record IsRest (v : View) (p : SubscriptPair) (k : ℕ) (rest : Option Interval) : Type 0 where
  pub extremes : AreExtremes (CommonFrom v p k []) rest
  pub small : IfSome rest (λ x. IsWithin ((6 - k) * 2 ^ 94) x)

-- under each vector with this front, the extremes of the difference are those of the loops behind the front and this sum
pub record IsSum (v : View) (p : SubscriptPair) (front : List Direction) (sum : Interval) : Type 0 where
  pub some : (rest : List Direction) (l h : ℤ) → Extreme (CommonFrom v p (length front) rest) l h → Extreme (DifferenceValue v p (front ++ rest)) (sum.lo +ℤ l) (sum.hi +ℤ h)
  pub none : (rest : List Direction) → ((x : ℤ) → ¬ (CommonFrom v p (length front) rest x)) → (x : ℤ) → ¬ (DifferenceValue v p (front ++ rest) x)
  pub small : IsWithin ((32 + length front) * 2 ^ 94) sum

-- there is such a sum, or no difference under any vector with this front
abbrev pub MaySum : View → SubscriptPair → List Direction → Option Interval → Type 0
MaySum v p front sum = MatchOption sum ((rest : List Direction) (x : ℤ) → ¬ (DifferenceValue v p (front ++ rest) x)) (IsSum v p front)

-- what a loop adds in a direction
abbrev pub part_of : Direction → LoopParts → Option Interval
part_of Before parts = parts.before
part_of Same parts = parts.same
part_of After parts = parts.after
