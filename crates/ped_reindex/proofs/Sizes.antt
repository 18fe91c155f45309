-- Factors and sizes that are allowed.
use Rattle.std.proofs.Common.{◌≡◌, ◌≤◌, ℤ, pos, ◌≤ℤ◌, ◌-ℤ◌, unsigned_abs, Bool, true, false, ◌||◌, FitsSigned, refl, arith, int_eq}
use Rattle.std.specs.Prelude.{nat_lt}
use Rattle.std.specs.Int.{w64}
use Rattle.std.proofs.lemmas.Bool.{both_ways}
use Rattle.std.proofs.lemmas.Bool.Decides.{Decides-int_eq}
use Rattle.std.proofs.lemmas.Int.{fits_signed_from_abs}
use Rattle.ped_rules.specs.ped_views.proofs.Products.{abs_some, linear}
use Rattle.ped_reindex.specs.Skewing.{is_bad_factor}
use Rattle.ped_reindex.specs.Stripping.{is_bad_size}

-- a factor isn't 0, and at most 1000 in size
pub factor_sizes : (f : ℤ) → is_bad_factor f ≡ false → (1 ≤ unsigned_abs f) × (unsigned_abs f ≤ 1000)
factor_sizes f h = by (int_eq f (pos 0)) refl h
  where
    by : (b : Bool) → int_eq f (pos 0) ≡ b → b || nat_lt 1000 (unsigned_abs f) ≡ false → (1 ≤ unsigned_abs f) × (unsigned_abs f ≤ 1000)
    by true e k = absurd cc
    by false e k = (some, grind (arith, k))
      where
        some : 1 ≤ unsigned_abs f
        some = let more = abs_some f (λ z. both_ways (int_eq f (pos 0)) e ((Decides-int_eq f (pos 0)).1 z)) in omega (arith, more)

-- a strip has 2 to 1000 iterations
pub strip_sizes : (k : ℤ) → is_bad_size k ≡ false → (pos 2 ≤ℤ k) × (k ≤ℤ pos 1000)
strip_sizes k h = (grind (arith, linear, h), grind (arith, linear, h))

pub size_small : (k : ℤ) → is_bad_size k ≡ false → unsigned_abs k ≤ 2147483647
size_small k h = let parts = strip_sizes k h in by k parts.0 parts.1
  where
    by : (n : ℤ) → pos 2 ≤ℤ n → n ≤ℤ pos 1000 → unsigned_abs n ≤ 2147483647
    by n a b = omega (arith, linear, a, b)

pub end_small : (k : ℤ) → is_bad_size k ≡ false → unsigned_abs (k -ℤ pos 1) ≤ 2147483647
end_small k h = let parts = strip_sizes k h in by k parts.0 parts.1
  where
    by : (n : ℤ) → pos 2 ≤ℤ n → n ≤ℤ pos 1000 → unsigned_abs (n -ℤ pos 1) ≤ 2147483647
    by n a b = omega (arith, linear, a, b)

-- both have 64 bits
pub size_fits : (k : ℤ) → is_bad_size k ≡ false → FitsSigned w64 k
size_fits k h = let small = size_small k h in fits_signed_from_abs w64 k (omega (arith, small))

pub end_fits : (k : ℤ) → is_bad_size k ≡ false → FitsSigned w64 (k -ℤ pos 1)
end_fits k h = let small = end_small k h in fits_signed_from_abs w64 (k -ℤ pos 1) (omega (arith, small))

-- so has a number of a literal's size
pub literal_fits : (n : ℤ) → unsigned_abs n ≤ 2147483647 → FitsSigned w64 n
literal_fits n small = fits_signed_from_abs w64 n (omega (arith, small))
