-- Intervals of whole numbers, and the least interval of the values of a function on them (plain words).
use Rattle.std.specs.Prelude.{◌≡◌, ℕ, ◌≤◌, ℤ, ◌≤ℤ◌, unsigned_abs}
use Rattle.ped_views.specs.declared.intervals.Interval.{Interval}

-- x lies in the interval
pub record Lies (x : ℤ) (r : Interval) : Type 0 where
  pub from : r.lo ≤ℤ x
  pub to : x ≤ℤ r.hi

-- an interval with a number, its ends at most this far from zero
pub record IsWithin (bound : ℕ) (r : Interval) : Type 0 where
  pub ordered : r.lo ≤ℤ r.hi
  pub lo_small : unsigned_abs r.lo ≤ bound
  pub hi_small : unsigned_abs r.hi ≤ bound

-- r holds the values of f on p, and no lesser interval does: both its ends are values
pub record IsImage (f : ℤ → ℤ) (p r : Interval) : Type 0 where
  pub holds : (x : ℤ) → Lies x p → Lies (f x) r
  pub least : (x : ℤ) × Lies x p × (f x ≡ r.lo)
  pub greatest : (x : ℤ) × Lies x p × (f x ≡ r.hi)

-- the same of a function of two numbers, one from each interval
pub record IsImageOfBoth (f : ℤ → ℤ → ℤ) (p q r : Interval) : Type 0 where
  pub holds : (x y : ℤ) → Lies x p → Lies y q → Lies (f x y) r
  pub least : (x : ℤ) × (y : ℤ) × Lies x p × Lies y q × (f x y ≡ r.lo)
  pub greatest : (x : ℤ) × (y : ℤ) × Lies x p × Lies y q × (f x y ≡ r.hi)
