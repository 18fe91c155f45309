-- Divisors and rounded quotients of whole numbers, from those of their magnitudes.
use Rattle.std.proofs.Common.{◌≡◌, ℕ, ◌*◌, ◌/◌, sym, ap, subst, ◌∙◌, arith, ℤ, pos, negsuc, ◌+ℤ◌, ◌-ℤ◌, ◌*ℤ◌, neg_ℤ, ◌≤ℤ◌, ◌<ℤ◌, unsigned_abs, int_div, int_rem}
use Rattle.std.proofs.Math.IntN.{*ℤ_comm, zero-*ℤ, *ℤ-zero}
use Rattle.std.proofs.Math.Nat.{mul-div_cancel', dvd-mul_right}
use Rattle.std.proofs.lemmas.Int.{ints, quot-rem, rem_below, unsigned_abs-mul}
use Rattle.std.specs.Int.{IsGcd, ◌∣◌}
use Rattle.ped_views.specs.Whole.{Divides, IsGreatestDivisor, IsRoundedDown}
use Rattle.ped_views.proofs.Products.{linear, mul-add, mul-neg, mul-sub, mul-assoc, abs_some}

pub Divides-trans : (a b c : ℤ) → Divides a b → Divides b c → Divides a c
Divides-trans a b c (k, e) (l, f) = (k *ℤ l, sym (mul-assoc a k l) ∙ ap (λ (z : ℤ). z *ℤ l) e ∙ f)

pub Divides-times : (g a x : ℤ) → Divides g a → Divides g (a *ℤ x)
Divides-times g a x (k, e) = (k *ℤ x, sym (mul-assoc g k x) ∙ ap (λ (z : ℤ). z *ℤ x) e)

pub Divides-add : (g a b : ℤ) → Divides g a → Divides g b → Divides g (a +ℤ b)
Divides-add g a b (k, e) (l, f) = (k +ℤ l, let m = mul-add g k l in omega (arith, linear))

pub divides_by_abs : (d n : ℤ) → unsigned_abs d ∣ unsigned_abs n → Divides d n
divides_by_abs d n h = signed d n (unsigned_abs n / unsigned_abs d) (mul-div_cancel' (unsigned_abs d) h)
  where
    signed : (d n : ℤ) (k : ℕ) → unsigned_abs d * k ≡ unsigned_abs n → Divides d n
    signed (pos d) (pos n) k e = (pos k, omega (arith, ints))
    signed (pos d) (negsuc n) k e = (neg_ℤ (pos k), let m = mul-neg (pos d) (pos k) in omega (arith, ints))
    signed (negsuc d) (pos n) k e = (neg_ℤ (pos k), let m = mul-neg (negsuc d) (pos k) in omega (arith, ints))
    signed (negsuc d) (negsuc n) k e = (pos k, omega (arith, ints))

pub abs_by_divides : (d n : ℤ) → Divides d n → unsigned_abs d ∣ unsigned_abs n
abs_by_divides d n (k, e) = subst (λ (x : ℕ). unsigned_abs d ∣ x) (sym (unsigned_abs-mul d k) ∙ ap unsigned_abs e) (dvd-mul_right (unsigned_abs d) (unsigned_abs k))

-- the greatest common divisor of the magnitudes is that of the numbers
pub greatest_by_abs : (a b : ℤ) (g : ℕ) → IsGcd (unsigned_abs a) (unsigned_abs b) g → IsGreatestDivisor a b (pos g)
greatest_by_abs a b g h = record {
  not_negative = omega (arith, ints);
  divides_first = divides_by_abs (pos g) a h.0;
  divides_second = divides_by_abs (pos g) b h.1;
  greatest = λ d u v. divides_by_abs d (pos g) (h.2 (unsigned_abs d) (abs_by_divides d a u) (abs_by_divides d b v));
}

pub greatest_is : (a b : ℤ) (m n g : ℕ) (r : ℤ) → m ≡ unsigned_abs a → n ≡ unsigned_abs b → r ≡ pos g → IsGcd m n g → IsGreatestDivisor a b r
greatest_is a b m n g r ea eb er h =
    let k : IsGcd (unsigned_abs a) (unsigned_abs b) g = subst (λ (x : ℕ). IsGcd (unsigned_abs a) x g) eb (subst (λ (x : ℕ). IsGcd x n g) ea h) in
    subst (λ (x : ℤ). IsGreatestDivisor a b x) (sym er) (greatest_by_abs a b g k)

-- one less than the quotient, where the remainder has the sign that the divisor hasn't
pub rounded_apart : (a b q : ℤ) → ¬ (b ≡ pos 0) → q ≡ int_div a b -ℤ pos 1 → (pos 0 <ℤ b → int_rem a b <ℤ pos 0) → (b <ℤ pos 0 → pos 0 <ℤ int_rem a b) → IsRoundedDown a b q
rounded_apart a b q n e f g = subst (λ (x : ℤ). IsRoundedDown a b x) (sym e) (
    let w = quot-rem a b in
    let c = *ℤ_comm b (int_div a b) in
    let s = rem_below a b (abs_some b n) in
    let m = mul-sub b (int_div a b) (pos 1) in
    record { above = λ p. let t = f p in (omega (arith, ints), omega (arith, ints)); below = λ p. let t = g p in (omega (arith, ints), omega (arith, ints)) })

-- the quotient, where the remainder is 0 or has the divisor's sign
pub rounded_near : (a b q : ℤ) → ¬ (b ≡ pos 0) → q ≡ int_div a b → (pos 0 <ℤ b → pos 0 ≤ℤ int_rem a b) → (b <ℤ pos 0 → int_rem a b ≤ℤ pos 0) → IsRoundedDown a b q
rounded_near a b q n e f g = subst (λ (x : ℤ). IsRoundedDown a b x) (sym e) (
    let w = quot-rem a b in
    let c = *ℤ_comm b (int_div a b) in
    let s = rem_below a b (abs_some b n) in
    record { above = λ p. let t = f p in (omega (arith, ints), omega (arith, ints)); below = λ p. let t = g p in (omega (arith, ints), omega (arith, ints)) })

-- zero divides zero alone
pub divides_by_zero : (d n : ℤ) → d ≡ pos 0 → Divides d n → n ≡ pos 0
divides_by_zero d n e (k, f) = sym f ∙ ap (λ (z : ℤ). z *ℤ k) e ∙ zero-*ℤ k

pub divides_zero : (d n : ℤ) → n ≡ pos 0 → Divides d n
divides_zero d n e = (pos 0, *ℤ-zero d ∙ sym e)
