-- Products of two numbers of forms fit 128 bits.
use Rattle.std.proofs.Common.{◌*◌, ◌^◌, ◌≤◌, arith, ℤ, ◌*ℤ◌, unsigned_abs, mul-le-mul, FitsSigned}
use Rattle.std.specs.Int.{w128}
use Rattle.std.proofs.lemmas.Int.{unsigned_abs-mul, fits_signed_from_abs}
use Rattle.ped_certificates.specs.Limits.{IsWithin}

product_within : (a b : ℤ) → IsWithin (2 ^ 62) a → IsWithin (2 ^ 62) b → IsWithin (2 ^ 124) (a *ℤ b)
product_within a b p q =
    let s : unsigned_abs (a *ℤ b) ≤ 2 ^ 62 * 2 ^ 62 = rw (unsigned_abs-mul a b) (mul-le-mul p q) in
    omega arith

pub product_fits : (a b : ℤ) → IsWithin (2 ^ 62) a → IsWithin (2 ^ 62) b → FitsSigned w128 (a *ℤ b)
product_fits a b p q = let s = product_within a b p q in fits_signed_from_abs w128 (a *ℤ b) (omega arith)

-- for `grind`: products of 128 bits
pub ruleset fitting = (product_fits)
