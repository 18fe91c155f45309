-- Powers of -1, 0 and 1, and powers that 128 bits don't hold.
use Rattle.std.proofs.Common.{◌≡◌, ℕ, zero, suc, ◌-◌, ◌%◌, ◌^◌, ◌<◌, ◌≤◌, true, leb, eqb, refl, sym, ap, ◌∙◌, arith, ℤ, pos, negsuc, neg_ℤ, unsigned_abs, Ok, Err, if◌then◌else◌, lit<}
use Rattle.std.proofs.Math.Nat.{pow-zero, pow-suc, pow-le-pow_left, pow-le-pow_right}
use Rattle.std.proofs.lemmas.Bool.{cond-true, cond-false, cond_both, eq-eqb, ne_eqb, le-ltb, lt-leb, and_left}
use Rattle.std.specs.Int.{int_pow}
use Rattle.ped_base.specs.declared.arithmetic.faults.Fault.TheVariants.{OutOfRange}
use Rattle.ped_base.specs.Arithmetic.Arithmetic.{in_range}

one-pow : (n : ℕ) → 1 ^ n ≡ 1
one-pow zero = pow-zero 1
one-pow (suc n) = omega (arith, pow-suc 1 n, one-pow n)

zero-pow : (n : ℕ) → ¬ (n ≡ 0) → 0 ^ n ≡ 0
zero-pow zero h = absurd (h refl)
zero-pow (suc n) h = omega (arith, pow-suc 0 n)

-- an even power of -1, 0 or 1
pub even_power : (a : ℤ) (n : ℕ) → unsigned_abs a < 2 → ¬ (n ≡ 0) → n % 2 ≡ 0 → pos (unsigned_abs a) ≡ int_pow a n
even_power (pos zero) n s h e = ap pos (sym (zero-pow n h))
even_power (pos (suc zero)) n s h e = ap pos (sym (one-pow n))
even_power (pos (suc (suc m))) n s h e = absurd (omega arith)
even_power (negsuc zero) n s h e = sym (cond-true (eqb (n % 2) 0) (pos (1 ^ n)) (neg_ℤ (pos (1 ^ n))) (eq-eqb (n % 2) 0 e) ∙ ap pos (one-pow n))
even_power (negsuc (suc m)) n s h e = absurd (omega arith)

-- an odd power of -1, 0 or 1
pub odd_power : (a : ℤ) (n : ℕ) → unsigned_abs a < 2 → ¬ (n ≡ 0) → ¬ (n % 2 ≡ 0) → a ≡ int_pow a n
odd_power (pos zero) n s h o = ap pos (sym (zero-pow n h))
odd_power (pos (suc zero)) n s h o = ap pos (sym (one-pow n))
odd_power (pos (suc (suc m))) n s h o = absurd (omega arith)
odd_power (negsuc zero) n s h o = sym (cond-false (eqb (n % 2) 0) (pos (1 ^ n)) (neg_ℤ (pos (1 ^ n))) (ne_eqb (n % 2) 0 o) ∙ ap (λ (k : ℕ). neg_ℤ (pos k)) (one-pow n))
odd_power (negsuc (suc m)) n s h o = absurd (omega arith)

unsigned_abs-neg : (k : ℕ) → unsigned_abs (neg_ℤ (pos k)) ≡ k
unsigned_abs-neg zero = refl
unsigned_abs-neg (suc k) = refl

unsigned_abs-int_pow : (a : ℤ) (n : ℕ) → unsigned_abs (int_pow a n) ≡ unsigned_abs a ^ n
unsigned_abs-int_pow (pos m) n = refl
unsigned_abs-int_pow (negsuc m) n = cond_both (eqb (n % 2) 0) (pos (suc m ^ n)) (neg_ℤ (pos (suc m ^ n))) (λ z. unsigned_abs z ≡ suc m ^ n) (λ _. refl) (λ _. unsigned_abs-neg (suc m ^ n))

-- so great a number leaves its range
out_of_range : (z : ℤ) → 2 ^ 128 ≤ unsigned_abs z → in_range z ≡ Err OutOfRange
out_of_range (pos m) h = ap (λ b. if b then Ok (pos m) else Err OutOfRange) (le-ltb m (2 ^ 127) (omega arith))
out_of_range (negsuc m) h = ap (λ b. if b then Ok (negsuc m) else Err OutOfRange) (and_left (leb m (2 ^ 127 - 1)) true (lt-leb m (2 ^ 127 - 1) (omega arith)))

-- no base but -1, 0 and 1 has a power of 128 bits with a greater exponent than 127
pub great_power : (a : ℤ) (n : ℕ) → 2 ≤ unsigned_abs a → 127 < n → Err OutOfRange ≡ in_range (int_pow a n)
great_power a n h g =
    let of_two : 2 ^ 128 ≤ 2 ^ n = pow-le-pow_right {n = 2} (lit< tt) {i = 128} {j = n} (omega arith) in
    let of_base : 2 ^ n ≤ unsigned_abs a ^ n = pow-le-pow_left h n in
    sym (out_of_range (int_pow a n) (omega (arith, unsigned_abs-int_pow a n)))
