-- Quotients are no larger than their dividends.
use Rattle.std.proofs.Common.{◌≡◌, ◌/◌, ◌<◌, ◌≤◌, ◌^◌, ℕ, suc, ℤ, pos, negsuc, neg_ℤ, ◌<ℤ◌, unsigned_abs, int_div, FitsSigned, arith}
use Rattle.std.specs.Int.{w128}
use Rattle.std.proofs.Math.Nat.{div-le_self}
use Rattle.std.proofs.lemmas.Int.{ints}

abs_of_negation : (n : ℕ) → unsigned_abs (neg_ℤ (pos n)) ≡ n
abs_of_negation n = omega (arith, ints)

quotient_within : (a d : ℤ) → unsigned_abs (int_div a d) ≤ unsigned_abs a
quotient_within (pos a) (pos b) = div-le_self a b
quotient_within (pos a) (negsuc b) = rw (abs_of_negation (a / suc b)) (div-le_self a (suc b))
quotient_within (negsuc a) (pos b) = rw (abs_of_negation (suc a / b)) (div-le_self (suc a) b)
quotient_within (negsuc a) (negsuc b) = div-le_self (suc a) (suc b)

pub quotient_fits : (n d : ℤ) → unsigned_abs n < 2 ^ 64 → FitsSigned w128 (int_div n d)
quotient_fits n d h = let s = quotient_within n d in omega (arith, ints)

pub quotient_below : (n d : ℤ) → unsigned_abs n < 2 ^ 64 → int_div n d <ℤ pos (2 ^ 64)
quotient_below n d h = let s = quotient_within n d in omega (arith, ints)
