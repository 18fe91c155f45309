-- An image has one pair of ends, so the intervals that the code finds are those of the definitions.
use Rattle.std.proofs.Common.{◌≡◌, ℕ, refl, ap, arith, ℤ, ◌+ℤ◌, ◌-ℤ◌, ◌*ℤ◌, neg_ℤ, ◌≤ℤ◌}
use Rattle.std.specs.Int.{int_max, int_min}
use Rattle.std.proofs.lemmas.Int.{clamps}
use Rattle.ped_views.specs.declared.intervals.Interval.{Interval}
use Rattle.ped_views.specs.Intervals.{IsWithin, IsImage, IsImageOfBoth}
use Rattle.ped_views.proofs.Products.{linear}
use Rattle.ped_views.proofs.Images.{add_ends, sub_ends, mul_image, max_image, min_image}
use Rattle.ped_affine.specs.IntervalArithmetic.{interval_sum, interval_difference, interval_negation, interval_product, interval_max, interval_min}

same_ends : (r s : Interval) → r.lo ≡ s.lo → r.hi ≡ s.hi → r ≡ s
same_ends r s l h = λ i. record { lo = l i; hi = h i }

one_lo : (f : ℤ → ℤ → ℤ) (p q r s : Interval) → IsImageOfBoth f p q r → IsImageOfBoth f p q s → r.lo ≤ℤ s.lo
one_lo f p q r s a b =
    let (x, y, u, v, e) = b.least in
    let h = a.holds x y u v in
    omega (arith, linear, h.from)

one_hi : (f : ℤ → ℤ → ℤ) (p q r s : Interval) → IsImageOfBoth f p q r → IsImageOfBoth f p q s → s.hi ≤ℤ r.hi
one_hi f p q r s a b =
    let (x, y, u, v, e) = b.greatest in
    let h = a.holds x y u v in
    omega (arith, linear, h.to)

-- a function on two intervals has one image
pub one_image : (f : ℤ → ℤ → ℤ) (p q r s : Interval) → IsImageOfBoth f p q r → IsImageOfBoth f p q s → r ≡ s
one_image f p q r s a b =
    let l = one_lo f p q r s a b in
    let l' = one_lo f p q s r b a in
    let h = one_hi f p q r s a b in
    let h' = one_hi f p q s r b a in
    same_ends r s (omega (arith, linear)) (omega (arith, linear))

pub sum_is : (p q r : Interval) → p.lo ≤ℤ p.hi → q.lo ≤ℤ q.hi → IsImageOfBoth (λ x. λ y. x +ℤ y) p q r → r ≡ interval_sum p q
sum_is p q r a b h = let e = add_ends p q r a b h in same_ends r (interval_sum p q) e.0 e.1

pub difference_is : (p q r : Interval) → p.lo ≤ℤ p.hi → q.lo ≤ℤ q.hi → IsImageOfBoth (λ x. λ y. x -ℤ y) p q r → r ≡ interval_difference p q
difference_is p q r a b h = let e = sub_ends p q r a b h in same_ends r (interval_difference p q) e.0 e.1

pub product_is : (p q r : Interval) → p.lo ≤ℤ p.hi → q.lo ≤ℤ q.hi → IsImageOfBoth (λ x. λ y. x *ℤ y) p q r → r ≡ interval_product p q
product_is p q r a b h =
    one_image (λ x. λ y. x *ℤ y) p q r (interval_product p q) h
    (mul_image p q (interval_product p q) (p.lo *ℤ q.lo) (p.lo *ℤ q.hi) (p.hi *ℤ q.lo) (p.hi *ℤ q.hi) a b refl refl refl refl refl refl)

pub max_is : (p q r : Interval) → p.lo ≤ℤ p.hi → q.lo ≤ℤ q.hi → IsImageOfBoth (λ x. λ y. int_max x y) p q r → r ≡ interval_max p q
max_is p q r a b h = one_image (λ x. λ y. int_max x y) p q r (interval_max p q) h (max_image p q (interval_max p q) a b refl refl)

pub min_is : (p q r : Interval) → p.lo ≤ℤ p.hi → q.lo ≤ℤ q.hi → IsImageOfBoth (λ x. λ y. int_min x y) p q r → r ≡ interval_min p q
min_is p q r a b h = one_image (λ x. λ y. int_min x y) p q r (interval_min p q) h (min_image p q (interval_min p q) a b refl refl)

pub negation_is : (p r : Interval) → p.lo ≤ℤ p.hi → IsImage (λ x. neg_ℤ x) p r → r ≡ interval_negation p
negation_is p r a h =
    let (x, u, e) = h.least in
    let (y, v, f) = h.greatest in
    let l = h.holds p.hi (record { from = a; to = omega (arith, linear) }) in
    let k = h.holds p.lo (record { from = omega (arith, linear); to = a }) in
    same_ends r (interval_negation p) (omega (arith, linear, u.to, l.from)) (omega (arith, linear, v.from, k.to))

pub max_within : (n : ℕ) (p q r : Interval) → IsWithin n p → IsWithin n q → r ≡ interval_max p q → IsWithin n r
max_within n p q r a b e =
    let l = ap (λ (s : Interval). s.lo) e in
    let h = ap (λ (s : Interval). s.hi) e in
    record {
      ordered = omega (arith, linear, clamps, a.ordered, b.ordered);
      lo_small = omega (arith, linear, clamps, a.lo_small, b.lo_small);
      hi_small = omega (arith, linear, clamps, a.hi_small, b.hi_small);
    }

pub min_within : (n : ℕ) (p q r : Interval) → IsWithin n p → IsWithin n q → r ≡ interval_min p q → IsWithin n r
min_within n p q r a b e =
    let l = ap (λ (s : Interval). s.lo) e in
    let h = ap (λ (s : Interval). s.hi) e in
    record {
      ordered = omega (arith, linear, clamps, a.ordered, b.ordered);
      lo_small = omega (arith, linear, clamps, a.lo_small, b.lo_small);
      hi_small = omega (arith, linear, clamps, a.hi_small, b.hi_small);
    }
