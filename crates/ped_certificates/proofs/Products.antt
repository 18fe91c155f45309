-- Products and quotients of whole numbers, for proofs by linear arithmetic: bind the law of each product by a `let`.
use Rattle.std.proofs.Common.{◌≡◌, ℕ, zero, suc, ◌*◌, ◌/◌, ◌<◌, refl, sym, ap, ◌∙◌, arith, ℤ, pos, negsuc, ◌+ℤ◌, ◌-ℤ◌, ◌*ℤ◌, neg_ℤ, ◌≤ℤ◌, ◌<ℤ◌, unsigned_abs, int_div, int_rem}
use Rattle.std.specs.Int.{int_div_euclid}
use Rattle.std.proofs.Math.IntN.{*ℤ_comm, *ℤ-zero, pos-*ℤ-pos, pos-*ℤ-negsuc}
use Rattle.std.proofs.lemmas.Int.{ints, quot-rem, rem_below, unsigned_abs-mul, by_lt_z}
use borrow.Author.Differences.{up, down, product_is, fits_out, same_out, Apart-out, lt_T, le_T, lt_not, le_not, lt-true, lt-false, le-true, le-false, lt_out, le_out, fits_in, same_in, below_in, at_most_in, sum_is_lem, neg_is, abs_is, back_is}

-- for `omega`: orders, sums, negations, magnitudes and casts, with each product as an unknown
pub ruleset linear = (fits_out, same_out, Apart-out, lt_T, le_T, lt_not, le_not, lt-true, lt-false, le-true, le-false, lt_out, le_out, fits_in, same_in, below_in, at_most_in, sum_is_lem, neg_is, abs_is, back_is)

pub mul-add : (a b c : ℤ) → a *ℤ (b +ℤ c) ≡ a *ℤ b +ℤ a *ℤ c
mul-add a b c =
    let s = sum_is_lem b c in
    let u = ap (λ (x : ℕ). up a * x) s in
    let d = ap (λ (x : ℕ). down a * x) s in
    omega (arith, ints)

pub add-mul : (a b c : ℤ) → (a +ℤ b) *ℤ c ≡ a *ℤ c +ℤ b *ℤ c
add-mul a b c =
    let s = *ℤ_comm (a +ℤ b) c in
    let d = mul-add c a b in
    let e = *ℤ_comm c a in
    let f = *ℤ_comm c b in
    omega (arith, linear)

pub mul-neg : (a b : ℤ) → a *ℤ neg_ℤ b ≡ neg_ℤ (a *ℤ b)
mul-neg a b =
    let s = neg_is b in
    let u = ap (λ (x : ℕ). up a * x) s.0 in
    let d = ap (λ (x : ℕ). down a * x) s.0 in
    let u' = ap (λ (x : ℕ). up a * x) s.1 in
    let d' = ap (λ (x : ℕ). down a * x) s.1 in
    omega (arith, ints)

mul-sub : (a b c : ℤ) → a *ℤ (b -ℤ c) ≡ a *ℤ b -ℤ a *ℤ c
mul-sub a b c = mul-add a b (neg_ℤ c) ∙ ap (λ (x : ℤ). a *ℤ b +ℤ x) (mul-neg a c)

pub mul-assoc : (a b c : ℤ) → (a *ℤ b) *ℤ c ≡ a *ℤ (b *ℤ c)
mul-assoc a b c =
    let s = product_is a b in
    let t = product_is b c in
    let s1 = ap (λ (x : ℕ). x * up c) s.0 in
    let s2 = ap (λ (x : ℕ). x * down c) s.0 in
    let s3 = ap (λ (x : ℕ). x * up c) s.1 in
    let s4 = ap (λ (x : ℕ). x * down c) s.1 in
    let t1 = ap (λ (x : ℕ). up a * x) t.0 in
    let t2 = ap (λ (x : ℕ). down a * x) t.0 in
    let t3 = ap (λ (x : ℕ). up a * x) t.1 in
    let t4 = ap (λ (x : ℕ). down a * x) t.1 in
    omega (arith, ints)

-- a product with a factor that isn't negative grows with the other
pub mul-le : (n : ℕ) (b c : ℤ) → b ≤ℤ c → (pos n *ℤ b) ≤ℤ (pos n *ℤ c)
mul-le n b c k =
    let d = mul-add (pos n) b (c -ℤ b) in
    let e : b +ℤ (c -ℤ b) ≡ c = omega (arith, linear) in
    let e' = ap (λ (x : ℤ). pos n *ℤ x) e in
    let p = not_negative n (c -ℤ b) (omega (arith, linear)) in
    omega (arith, linear)
  where
    not_negative : (n : ℕ) (x : ℤ) → pos 0 ≤ℤ x → pos 0 ≤ℤ (pos n *ℤ x)
    not_negative n (pos x) h = let e = pos-*ℤ-pos n x in omega (arith, ints)
    not_negative n (negsuc x) h = absurd (omega (arith, ints))

-- a multiple of a that is smaller than a is 0 times a
small_multiple : (a k : ℤ) → unsigned_abs (a *ℤ k) < unsigned_abs a → k ≡ pos 0
small_multiple a k h = let e = unsigned_abs-mul a k in none k (below (unsigned_abs a) (unsigned_abs k) (omega arith))
  where
    below : (a k : ℕ) → a * k < a → k ≡ 0
    below a zero h = refl
    below a (suc k) h = absurd (omega arith)

    none : (z : ℤ) → unsigned_abs z ≡ 0 → z ≡ pos 0
    none z e = omega (arith, ints)

-- where the remainder is 0, the divisor divides
pub divides_by_rem : (n d : ℤ) → int_rem n d ≡ pos 0 → d *ℤ int_div n d ≡ n
divides_by_rem n d e =
    let q = quot-rem n d in
    let c = *ℤ_comm d (int_div n d) in
    omega (arith, ints)

-- where the divisor divides, the remainder is 0
pub rem_by_divides : (n k : ℤ) (d : ℕ) → 0 < d → pos d *ℤ k ≡ n → int_rem n (pos d) ≡ pos 0
rem_by_divides n k d s e =
    let q = quot-rem n (pos d) in
    let c = *ℤ_comm (pos d) (int_div n (pos d)) in
    let r = rem_below n (pos d) s in
    let m = mul-sub (pos d) k (int_div n (pos d)) in
    let is : pos d *ℤ (k -ℤ int_div n (pos d)) ≡ int_rem n (pos d) = omega (arith, linear) in
    let w : unsigned_abs (pos d *ℤ (k -ℤ int_div n (pos d))) < d = rw is r in
    let z = small_multiple (pos d) (k -ℤ int_div n (pos d)) w in
    let back = sym is ∙ ap (λ (x : ℤ). pos d *ℤ x) z ∙ *ℤ-zero (pos d) in
    back

-- a number lies below the next multiple of the divisor above its quotient rounded down
above : (c : ℤ) (d : ℕ) → 0 < d → c <ℤ (pos d *ℤ int_div_euclid c (pos d) +ℤ pos d)
above (pos a) d h = let e = pos-*ℤ-pos d (a / d) in omega (arith, ints)
above (negsuc a) d h = let e = pos-*ℤ-negsuc d (a / d) in omega (arith, ints)

-- an inequality keeps its whole solutions when it is divided, and its constant is rounded down
pub rounded : (y c : ℤ) (d : ℕ) → 0 < d → pos 0 ≤ℤ (pos d *ℤ y +ℤ c) → pos 0 ≤ℤ (y +ℤ int_div_euclid c (pos d))
rounded y c d h at_least =
    let q = int_div_euclid c (pos d) in
    by_lt_z (y +ℤ q) (pos 0)
    (λ below.
    let a = above c d h in
    let s = mul-add (pos d) y q in
    let t = mul-add (pos d) (y +ℤ q) (pos 1) in
    let o = pos-*ℤ-pos d 1 in
    let l = mul-le d (y +ℤ q +ℤ pos 1) (pos 0) (omega (arith, linear)) in
    let z = *ℤ-zero (pos d) in
    absurd (omega (arith, linear)))
    (λ k. k)
