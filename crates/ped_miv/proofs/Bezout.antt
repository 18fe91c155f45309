-- The greatest common divisor of two numbers is a sum of multiples of both.
use Rattle.std.proofs.Common.{◌≡◌, ℕ, zero, suc, ◌+◌, ◌*◌, ◌/◌, ◌%◌, ◌≤◌, ◌<◌, refl, sym, ap, arith, ℤ, pos, negsuc, ◌+ℤ◌, ◌-ℤ◌, ◌*ℤ◌, neg_ℤ, unsigned_abs}
use Rattle.std.proofs.Math.IntN.{*ℤ_comm}
use Rattle.std.proofs.lemmas.Nat.Gcd.{IsGcd-from_mod, IsGcd-from_zero}
use Rattle.std.specs.Int.{IsGcd}
use borrow.Author.Differences.{product_is}
use Rattle.ped_views.specs.Whole.{Divides, IsGreatestDivisor}
use Rattle.ped_views.proofs.Products.{linear, mul-sub, mul-add, mul-neg, mul-assoc}
use Rattle.ped_views.proofs.Dividing.{greatest_by_abs, Divides-trans, Divides-times, Divides-add}

-- a sum of multiples of m and n that is their greatest common divisor
record Euclid (m n : ℕ) : Type 0 where
  g : ℕ
  x : ℤ
  y : ℤ
  divisor : IsGcd m n g
  is : pos m *ℤ x +ℤ pos n *ℤ y ≡ pos g

step : (m n r q : ℤ) (x y g : ℤ) → n *ℤ q +ℤ r ≡ m → n *ℤ x +ℤ r *ℤ y ≡ g → m *ℤ y +ℤ n *ℤ (x -ℤ q *ℤ y) ≡ g
step m n r q x y g e f =
    let s = ap (λ (z : ℤ). z *ℤ y) (sym e) in
    let c = *ℤ_comm (n *ℤ q +ℤ r) y in
    let d = mul-add y (n *ℤ q) r in
    let c1 = *ℤ_comm y (n *ℤ q) in
    let c2 = *ℤ_comm y r in
    let a = mul-assoc n q y in
    let t = mul-sub n x (q *ℤ y) in
    omega (arith, linear)

euclid : (fuel m n : ℕ) → n ≤ fuel → Euclid m n
euclid fuel m zero h = record { g = m; x = pos 1; y = pos 0; divisor = IsGcd-from_zero m 0 refl; is = omega (arith, linear, product_is) }
euclid zero m (suc n) h = absurd (omega arith)
euclid (suc fuel) m (suc n) h =
    let small : m % suc n < suc n = omega arith in
    let r = euclid fuel (suc n) (m % suc n) (omega arith) in
    let whole : suc n * (m / suc n) + m % suc n ≡ m = omega arith in
    let split : pos (suc n) *ℤ pos (m / suc n) +ℤ pos (m % suc n) ≡ pos m = ap pos whole in
    record {
      g = r.g;
      x = r.y;
      y = r.x -ℤ pos (m / suc n) *ℤ r.y;
      divisor = IsGcd-from_mod m (suc n) r.g r.divisor;
      is = step (pos m) (pos (suc n)) (pos (m % suc n)) (pos (m / suc n)) r.x r.y (pos r.g) split r.is;
    }

-- a number is its magnitude times a sign
sign : (a x : ℤ) → (y : ℤ) × (a *ℤ y ≡ pos (unsigned_abs a) *ℤ x)
sign (pos n) x = (x, refl)
sign (negsuc n) x = (neg_ℤ x, let m = mul-neg (negsuc n) x in omega (arith, linear, product_is))

-- a divisor of both that is a sum of multiples
record Combined (a b : ℤ) : Type 0 where
  g : ℤ
  x : ℤ
  y : ℤ
  first : Divides g a
  second : Divides g b
  is : a *ℤ x +ℤ b *ℤ y ≡ g

combined : (a b : ℤ) → Combined a b
combined a b =
    let r = euclid (unsigned_abs b) (unsigned_abs a) (unsigned_abs b) (omega arith) in
    let d = greatest_by_abs a b r.g r.divisor in
    let s = sign a r.x in
    let t = sign b r.y in
    let e = s.1 in
    let f = t.1 in
    let i = r.is in
    record { g = pos r.g; x = s.0; y = t.0; first = d.divides_first; second = d.divides_second; is = omega (arith, linear) }

scaled : (a b x y g k n : ℤ) → a *ℤ x +ℤ b *ℤ y ≡ g → g *ℤ k ≡ n → a *ℤ (x *ℤ k) +ℤ b *ℤ (y *ℤ k) ≡ n
scaled a b x y g k n e f =
    let p = mul-assoc a x k in
    let q = mul-assoc b y k in
    let s = ap (λ (z : ℤ). z *ℤ k) e in
    let c = *ℤ_comm (a *ℤ x +ℤ b *ℤ y) k in
    let d = mul-add k (a *ℤ x) (b *ℤ y) in
    let c1 = *ℤ_comm k (a *ℤ x) in
    let c2 = *ℤ_comm k (b *ℤ y) in
    omega (arith, linear)

-- what the greatest common divisor divides is a sum of multiples
pub combination : (a b g n : ℤ) → IsGreatestDivisor a b g → Divides g n → (x : ℤ) × (y : ℤ) × (a *ℤ x +ℤ b *ℤ y ≡ n)
combination a b g n d h =
    let c = combined a b in
    let all = Divides-trans c.g g n (d.greatest c.g c.first c.second) h in
    (c.x *ℤ all.0, c.y *ℤ all.0, scaled a b c.x c.y c.g all.0 n c.is all.1)

-- a sum of multiples is divided
pub combination_divided : (a b g x y : ℤ) → IsGreatestDivisor a b g → Divides g (a *ℤ x +ℤ b *ℤ y)
combination_divided a b g x y d = Divides-add g (a *ℤ x) (b *ℤ y) (Divides-times g a x d.divides_first) (Divides-times g b y d.divides_second)
