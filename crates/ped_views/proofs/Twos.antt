-- Greatest common divisors and factors of two: what the binary algorithm rests on.
use Rattle.std.proofs.Common.{◌≡◌, ℕ, zero, suc, ◌+◌, ◌*◌, ◌-◌, ◌/◌, ◌%◌, ◌^◌, ◌<◌, ◌≤◌, sym, ap, subst, ◌∙◌, arith, min}
use Rattle.std.proofs.Math.Nat.{dvd-sub, dvd-mul_right, dvd-mul_left_of_dvd, mul-dvd-mul_left, dvd_of_mul-dvd-mul_left, one-dvd, pow-suc, mod-eq_of_lt}
use Rattle.std.proofs.Math.Decide.{dec_dvd, dec_le}
use Rattle.std.proofs.lemmas.Nat.{shr-shr}
use Rattle.std.proofs.lemmas.Nat.Bits.{bit_at_or}
use Rattle.std.proofs.lemmas.Nat.Gcd.{dvd_refl, dvd_trans, dvd_of_mod-eq-zero, mod-eq-zero_of_dvd, IsGcd-swap, IsGcd-from_sub, le_of_dvd}
use Rattle.std.specs.Int.{IsGcd, ◌∣◌, bit_at, abs_diff}
use Rattle.std.specs.Int.RustNames.{bit_or}

-- an odd divisor of twice a number divides the number
divides_half : (d m : ℕ) → d % 2 ≡ 1 → d ∣ 2 * m → d ∣ m
divides_half d m o h = subst (λ (n : ℕ). d ∣ n) (less d (d / 2) m (omega arith)) (dvd-sub d (dvd-mul_right d m) (dvd-mul_left_of_dvd d h (d / 2)))
  where
    less : (d q m : ℕ) → d ≡ 2 * q + 1 → d * m - q * (2 * m) ≡ m
    less d q m e = subst (λ (x : ℕ). x * m - q * (2 * m) ≡ m) (sym e) (omega arith)

-- a divisor of an odd number is odd
odd_divisor : (x d : ℕ) → x % 2 ≡ 1 → d ∣ x → d % 2 ≡ 1
odd_divisor x d o h =
    let n : ¬ (d % 2 ≡ 0) = λ e. (let z = mod-eq-zero_of_dvd 2 (dvd_trans 2 (dvd_of_mod-eq-zero 2 e) h) in omega arith) in
    omega arith

-- a number has the common divisors with an odd one that its double has
gcd_doubled : (x m g : ℕ) → x % 2 ≡ 1 → IsGcd x m g → IsGcd x (2 * m) g
gcd_doubled x m g o h = (h.0, dvd-mul_left_of_dvd g h.1 2, λ d p q. h.2 d p (divides_half d m (odd_divisor x d o p) q))

-- double a product, with the double in the second factor
twice : (n p t : ℕ) → t ≡ p * 2 → 2 * (n * p) ≡ n * t
twice n p t e = subst (λ (x : ℕ). 2 * (n * p) ≡ n * x) (sym e) (omega arith)

-- and so with any power of two
gcd_with_twos : (k x m g : ℕ) → x % 2 ≡ 1 → IsGcd x m g → IsGcd x (m * 2 ^ k) g
gcd_with_twos zero x m g o h = subst (λ (n : ℕ). IsGcd x n g) (omega arith) h
gcd_with_twos (suc k) x m g o h = subst (λ (n : ℕ). IsGcd x n g) (twice m (2 ^ k) (2 ^ suc k) (pow-suc 2 k)) (gcd_doubled x (m * 2 ^ k) g o (gcd_with_twos k x m g o h))

-- the greatest common divisor of two doubles is the double of the numbers' own
gcd_of_doubles : (a b g : ℕ) → IsGcd a b g → IsGcd (2 * a) (2 * b) (2 * g)
gcd_of_doubles a b g h = (mul-dvd-mul_left g 2 h.0, mul-dvd-mul_left g 2 h.1, λ d p q. greatest d p q (dec_dvd 2 d))
  where
    halved : (d n : ℕ) → 2 ∣ d → d ∣ 2 * n → (d / 2) ∣ n
    halved d n t p = dvd_of_mul-dvd-mul_left (d / 2) (omega arith) (subst (λ (x : ℕ). x ∣ 2 * n) (let z = mod-eq-zero_of_dvd 2 t in omega arith) p)

    greatest : (d : ℕ) → d ∣ 2 * a → d ∣ 2 * b → Dec (2 ∣ d) → d ∣ 2 * g
    greatest d p q (yes t) = subst (λ (x : ℕ). x ∣ 2 * g) (let z = mod-eq-zero_of_dvd 2 t in omega arith) (mul-dvd-mul_left (d / 2) 2 (h.2 (d / 2) (halved d a t p) (halved d b t q)))
    greatest d p q (no f) =
        let n : ¬ (d % 2 ≡ 0) = λ e. f (dvd_of_mod-eq-zero 2 e) in
        let o : d % 2 ≡ 1 = omega arith in
        dvd-mul_left_of_dvd d (h.2 d (divides_half d a o p) (divides_half d b o q)) 2

-- the twos that both numbers have are twos of the divisor
gcd_of_twos : (k a b g : ℕ) → IsGcd a b g → IsGcd (a * 2 ^ k) (b * 2 ^ k) (g * 2 ^ k)
gcd_of_twos zero a b g h = subst (λ (n : ℕ). IsGcd n (b * 1) (g * 1)) (omega arith) (subst (λ (n : ℕ). IsGcd a n (g * 1)) (omega arith) (subst (λ (n : ℕ). IsGcd a b n) (omega arith) h))
gcd_of_twos (suc k) a b g h =
    let doubled : (n : ℕ) → 2 * (n * 2 ^ k) ≡ n * 2 ^ suc k = λ n. twice n (2 ^ k) (2 ^ suc k) (pow-suc 2 k) in
    subst (λ (n : ℕ). IsGcd n (b * 2 ^ suc k) (g * 2 ^ suc k)) (doubled a) (subst (λ (n : ℕ). IsGcd (2 * (a * 2 ^ k)) n (g * 2 ^ suc k)) (doubled b) (subst (λ (n : ℕ). IsGcd (2 * (a * 2 ^ k)) (2 * (b * 2 ^ k)) n) (doubled g)
    (gcd_of_doubles (a * 2 ^ k) (b * 2 ^ k) (g * 2 ^ k) (gcd_of_twos k a b g h))))

-- a number whose lowest bits are 0 is what is left without them, times their power of two
pub whole_twos : (k n : ℕ) → ((i : ℕ) → i < k → bit_at n i ≡ 0) → n / 2 ^ k * 2 ^ k ≡ n
whole_twos zero n h = omega arith
whole_twos (suc k) n h =
    again (n / 2 ^ k) (n / 2 ^ suc k) (2 ^ k) (2 ^ suc k) n
    (whole_twos k n (λ i l. h i (omega arith)))
    (h k (omega arith))
    (ap (λ (e : ℕ). n / 2 ^ e) (omega arith) ∙ sym (shr-shr n k 1))
    (pow-suc 2 k)
  where
    again : (q r p t n : ℕ) → q * p ≡ n → q % 2 ≡ 0 → r ≡ q / 2 → t ≡ p * 2 → r * t ≡ n
    again q r p t n e z f g = sym (twice r p t g) ∙ turned ∙ ap (λ (x : ℕ). x * p) halves ∙ e
      where
        turned : 2 * (r * p) ≡ 2 * r * p
        turned = omega arith

        halves : 2 * r ≡ q
        halves = omega arith

-- two numbers have the common divisors that the lesser and the difference have
gcd_of_difference : (x z g : ℕ) → IsGcd (min x z) (abs_diff x z) g → IsGcd x z g
gcd_of_difference x z g h = by_order (dec_le x z)
  where
    rewritten : (a b : ℕ) → min x z ≡ a → abs_diff x z ≡ b → IsGcd b a g
    rewritten a b e f = IsGcd-swap a b g (subst (λ (n : ℕ). IsGcd a n g) f (subst (λ (n : ℕ). IsGcd n (abs_diff x z) g) e h))

    by_order : Dec (x ≤ z) → IsGcd x z g
    by_order (yes l) = IsGcd-swap z x g (IsGcd-from_sub z x g l (rewritten x (z - x) (omega arith) (omega arith)))
    by_order (no f) = IsGcd-from_sub x z g (omega arith) (rewritten z (x - z) (omega arith) (omega arith))

-- a step of the binary algorithm
pub gcd_by_step : (x y z g : ℕ) → x % 2 ≡ 1 → (k : ℕ) × (z * 2 ^ k ≡ y) → IsGcd (min x z) (abs_diff x z) g → IsGcd x y g
gcd_by_step x y z g o (k, e) h = subst (λ (n : ℕ). IsGcd x n g) e (gcd_with_twos k x z g o (gcd_of_difference x z g h))

-- where no lower bit of two numbers is 1, their twos are twos of the divisor, which fits
pub gcd_of_shifted : (a b t g : ℕ) → 0 < a → a < 2 ^ 64 → ((i : ℕ) → i < t → bit_at (bit_or a b) i ≡ 0) → IsGcd (a / 2 ^ t) (b / 2 ^ t) g → IsGcd a b (g * 2 ^ t % 2 ^ 64)
gcd_of_shifted a b t g s f h d =
    let first = whole_twos t a (λ i l. (let e = bit_at_or a b i in let z = h i l in omega arith)) in
    let second = whole_twos t b (λ i l. (let e = bit_at_or a b i in let z = h i l in omega arith)) in
    let whole : IsGcd a b (g * 2 ^ t) = subst (λ (n : ℕ). IsGcd n b (g * 2 ^ t)) first (subst (λ (n : ℕ). IsGcd (a / 2 ^ t * 2 ^ t) n (g * 2 ^ t)) second (gcd_of_twos t (a / 2 ^ t) (b / 2 ^ t) g d)) in
    let small = le_of_dvd s whole.0 in
    subst (λ (n : ℕ). IsGcd a b n) (sym (mod-eq_of_lt (omega arith))) whole

-- 1 is the greatest common divisor of 1 and any number
pub gcd_with_one : (n : ℕ) → IsGcd 1 n 1
gcd_with_one n = (dvd_refl 1, one-dvd n, λ d p q. p)
