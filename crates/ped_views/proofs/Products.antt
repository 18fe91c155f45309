-- Products and quotients of whole numbers, for proofs by linear arithmetic: bind the law of each product by a `let`.
use Rattle.std.proofs.Common.{◌≡◌, ℕ, zero, suc, ◌*◌, ◌/◌, ◌<◌, ◌≤◌, refl, sym, ap, ◌∙◌, arith, ℤ, pos, negsuc, ◌+ℤ◌, ◌-ℤ◌, ◌*ℤ◌, neg_ℤ, ◌≤ℤ◌, unsigned_abs, int_div, int_rem}
use Rattle.std.proofs.Math.IntN.{*ℤ_comm}
use Rattle.std.proofs.Math.Nat.{div-le_self, mul-le-mul, mul-le-mul_left}
use Rattle.std.proofs.lemmas.Int.{ints, quot-rem, rem_below, unsigned_abs-mul, by_lt_z}
use borrow.Author.Differences.{up, down, product_is, fits_out, same_out, Apart-out, lt_T, le_T, lt_not, le_not, lt-true, lt-false, le-true, le-false, lt_out, le_out, fits_in, same_in, below_in, at_most_in, sum_is_lem, neg_is, abs_is, back_is}
use Rattle.ped_views.specs.Whole.{Divides}

-- for `omega`: orders, sums, negations, magnitudes and casts, with each product as an unknown
pub ruleset linear = (fits_out, same_out, Apart-out, lt_T, le_T, lt_not, le_not, lt-true, lt-false, le-true, le-false, lt_out, le_out, fits_in, same_in, below_in, at_most_in, sum_is_lem, neg_is, abs_is, back_is)

pub mul-add : (a b c : ℤ) → a *ℤ (b +ℤ c) ≡ a *ℤ b +ℤ a *ℤ c
mul-add a b c =
    let s = sum_is_lem b c in
    let u = ap (λ (x : ℕ). up a * x) s in
    let d = ap (λ (x : ℕ). down a * x) s in
    omega (arith, ints)

pub mul-neg : (a b : ℤ) → a *ℤ neg_ℤ b ≡ neg_ℤ (a *ℤ b)
mul-neg a b =
    let s = neg_is b in
    let u = ap (λ (x : ℕ). up a * x) s.0 in
    let d = ap (λ (x : ℕ). down a * x) s.0 in
    let u' = ap (λ (x : ℕ). up a * x) s.1 in
    let d' = ap (λ (x : ℕ). down a * x) s.1 in
    omega (arith, ints)

pub mul-sub : (a b c : ℤ) → a *ℤ (b -ℤ c) ≡ a *ℤ b -ℤ a *ℤ c
mul-sub a b c = mul-add a b (neg_ℤ c) ∙ ap (λ (x : ℤ). a *ℤ b +ℤ x) (mul-neg a c)

-- a number that isn't 0 has a magnitude
pub abs_some : (z : ℤ) → ¬ (z ≡ pos 0) → 0 < unsigned_abs z
abs_some z n = omega (arith, ints)

-- a multiple of a that is smaller than a is 0 times a
pub small_multiple : (a k : ℤ) → unsigned_abs (a *ℤ k) < unsigned_abs a → k ≡ pos 0
small_multiple a k h = let e = unsigned_abs-mul a k in none k (below (unsigned_abs a) (unsigned_abs k) (omega arith))
  where
    below : (a k : ℕ) → a * k < a → k ≡ 0
    below a zero h = refl
    below a (suc k) h = absurd (omega arith)

    none : (z : ℤ) → unsigned_abs z ≡ 0 → z ≡ pos 0
    none z e = omega (arith, ints)

pub mul-cancel : (a x y : ℤ) → ¬ (a ≡ pos 0) → a *ℤ x ≡ a *ℤ y → x ≡ y
mul-cancel a x y n e =
    let s = mul-sub a x y in
    let z : a *ℤ (x -ℤ y) ≡ pos 0 = omega (arith, ints) in
    let p = abs_some a n in
    let w : unsigned_abs (a *ℤ (x -ℤ y)) < unsigned_abs a = rw z p in
    let d = small_multiple a (x -ℤ y) w in
    omega (arith, ints)

-- where the remainder is 0, the divisor divides
pub divides_by_rem : (n d : ℤ) → int_rem n d ≡ pos 0 → d *ℤ int_div n d ≡ n
divides_by_rem n d e =
    let q = quot-rem n d in
    let c = *ℤ_comm d (int_div n d) in
    omega (arith, ints)

-- where the divisor divides, the remainder is 0
pub rem_by_divides : (n d : ℤ) → ¬ (d ≡ pos 0) → Divides d n → int_rem n d ≡ pos 0
rem_by_divides n d s (k, e) =
    let q = quot-rem n d in
    let c = *ℤ_comm d (int_div n d) in
    let r = rem_below n d (abs_some d s) in
    let m = mul-sub d k (int_div n d) in
    let is : d *ℤ (k -ℤ int_div n d) ≡ int_rem n d = omega (arith, ints) in
    let w : unsigned_abs (d *ℤ (k -ℤ int_div n d)) < unsigned_abs d = rw is r in
    let z = small_multiple d (k -ℤ int_div n d) w in
    let back = sym is ∙ ap (λ (x : ℤ). d *ℤ x) z in
    omega (arith, ints)

abs-neg : (n : ℕ) → unsigned_abs (neg_ℤ (pos n)) ≡ n
abs-neg n = omega (arith, ints)

-- a quotient is no larger than the dividend
pub quot_small : (a d : ℤ) → unsigned_abs (int_div a d) ≤ unsigned_abs a
quot_small (pos a) (pos b) = div-le_self a b
quot_small (pos a) (negsuc b) = rw (abs-neg (a / suc b)) (div-le_self a (suc b))
quot_small (negsuc a) (pos b) = rw (abs-neg (suc a / b)) (div-le_self (suc a) b)
quot_small (negsuc a) (negsuc b) = div-le_self (suc a) (suc b)

pub mul-assoc : (a b c : ℤ) → (a *ℤ b) *ℤ c ≡ a *ℤ (b *ℤ c)
mul-assoc a b c =
    let s = product_is a b in
    let t = product_is b c in
    let s1 = ap (λ (x : ℕ). x * up c) s.0 in
    let s2 = ap (λ (x : ℕ). x * down c) s.0 in
    let s3 = ap (λ (x : ℕ). x * up c) s.1 in
    let s4 = ap (λ (x : ℕ). x * down c) s.1 in
    let t1 = ap (λ (x : ℕ). up a * x) t.0 in
    let t2 = ap (λ (x : ℕ). down a * x) t.0 in
    let t3 = ap (λ (x : ℕ). up a * x) t.1 in
    let t4 = ap (λ (x : ℕ). down a * x) t.1 in
    omega (arith, ints)

pub neg-mul : (a b : ℤ) → neg_ℤ a *ℤ b ≡ neg_ℤ (a *ℤ b)
neg-mul a b = *ℤ_comm (neg_ℤ a) b ∙ mul-neg b a ∙ ap neg_ℤ (*ℤ_comm b a)

pub sub-mul : (a b c : ℤ) → (a -ℤ b) *ℤ c ≡ a *ℤ c -ℤ b *ℤ c
sub-mul a b c =
    let s = *ℤ_comm (a -ℤ b) c in
    let d = mul-sub c a b in
    let e = *ℤ_comm c a in
    let f = *ℤ_comm c b in
    omega (arith, linear)

-- a product with a factor that isn't negative grows with the other
pub mul-le : (a b c : ℤ) → pos 0 ≤ℤ a → b ≤ℤ c → (a *ℤ b) ≤ℤ (a *ℤ c)
mul-le (pos n) b c h k =
    let m = mul-le-mul_left n (le_out b c k) in
    omega (arith, ints)
mul-le (negsuc n) b c h k = absurd (omega (arith, ints))

-- a product is no larger than the product of bounds on its factors
pub mul_small : (a b : ℤ) (m n : ℕ) → unsigned_abs a ≤ m → unsigned_abs b ≤ n → unsigned_abs (a *ℤ b) ≤ m * n
mul_small a b m n p q = rw (unsigned_abs-mul a b) (mul-le-mul p q)

-- a multiple of x is no less than its lesser, and no greater than its greater value at the ends of x
pub multiple_from : (a x b y m : ℤ) → a ≤ℤ x → x ≤ℤ b → m ≤ℤ (y *ℤ a) → m ≤ℤ (y *ℤ b) → m ≤ℤ (y *ℤ x)
multiple_from a x b y m f t l h =
    by_lt_z y (pos 0)
    (λ n. let k = mul-le (neg_ℤ y) x b (omega (arith, linear)) t in
    let e = neg-mul y x in
    let e' = neg-mul y b in
    omega (arith, linear))
    (λ n. let k = mul-le y a x n f in omega (arith, linear))

pub multiple_to : (a x b y m : ℤ) → a ≤ℤ x → x ≤ℤ b → (y *ℤ a) ≤ℤ m → (y *ℤ b) ≤ℤ m → (y *ℤ x) ≤ℤ m
multiple_to a x b y m f t l h =
    by_lt_z y (pos 0)
    (λ n. let k = mul-le (neg_ℤ y) a x (omega (arith, linear)) f in
    let e = neg-mul y x in
    let e' = neg-mul y a in
    omega (arith, linear))
    (λ n. let k = mul-le y x b n t in omega (arith, linear))
