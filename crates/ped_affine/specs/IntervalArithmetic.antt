-- Arithmetic of intervals by their ends (plain words).
use Rattle.std.specs.Prelude.{ℤ, neg_ℤ, ◌+ℤ◌, ◌-ℤ◌, ◌*ℤ◌}
use Rattle.std.specs.Int.{int_min, int_max}
use Rattle.ped_views.specs.declared.intervals.Interval.{Interval}

-- the numbers from the first to the second
abbrev pub interval : ℤ → ℤ → Interval
interval lo hi = record { lo = lo; hi = hi }

-- the interval of this number alone
abbrev pub point : ℤ → Interval
point n = interval n n

-- the sums of a number of each
abbrev pub interval_sum : Interval → Interval → Interval
interval_sum a b = interval (a.lo +ℤ b.lo) (a.hi +ℤ b.hi)

-- the differences of a number of each
abbrev pub interval_difference : Interval → Interval → Interval
interval_difference a b = interval (a.lo -ℤ b.hi) (a.hi -ℤ b.lo)

-- the numbers with the opposite sign
abbrev pub interval_negation : Interval → Interval
interval_negation a = interval (neg_ℤ a.hi) (neg_ℤ a.lo)

-- from the least to the greatest product of two ends
abbrev pub interval_product : Interval → Interval → Interval
interval_product a b = interval
    (int_min (int_min (a.lo *ℤ b.lo) (a.lo *ℤ b.hi)) (int_min (a.hi *ℤ b.lo) (a.hi *ℤ b.hi)))
    (int_max (int_max (a.lo *ℤ b.lo) (a.lo *ℤ b.hi)) (int_max (a.hi *ℤ b.lo) (a.hi *ℤ b.hi)))

-- the greater of a number of each
abbrev pub interval_max : Interval → Interval → Interval
interval_max a b = interval (int_max a.lo b.lo) (int_max a.hi b.hi)

-- the lesser of a number of each
abbrev pub interval_min : Interval → Interval → Interval
interval_min a b = interval (int_min a.lo b.lo) (int_min a.hi b.hi)
