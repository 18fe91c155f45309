-- The ends of sums, differences, products and extremes of intervals.
use Rattle.std.proofs.Common.{◌≡◌, ℕ, sym, subst, ◌∙◌, arith, inl, inr, ◌⊎◌, ℤ, ◌+ℤ◌, ◌-ℤ◌, ◌*ℤ◌, ◌≤ℤ◌}
use Rattle.std.proofs.Math.IntN.{*ℤ_comm}
use Rattle.std.proofs.lemmas.Int.{by_lt_z, clamps}
use Rattle.std.specs.Int.{int_max, int_min}
use Rattle.ped_views.specs.declared.intervals.Interval.{Interval}
use Rattle.ped_views.specs.Intervals.{Lies, IsWithin, IsImageOfBoth}
use Rattle.ped_views.proofs.Products.{linear, multiple_from, multiple_to}

lo_lies : (p : Interval) → p.lo ≤ℤ p.hi → Lies p.lo p
lo_lies p h = record { from = omega (arith, linear); to = h }

hi_lies : (p : Interval) → p.lo ≤ℤ p.hi → Lies p.hi p
hi_lies p h = record { from = h; to = omega (arith, linear) }

pub add_image : (n : ℕ) (p q r : Interval) → IsWithin n p → IsWithin n q → r.lo ≡ p.lo +ℤ q.lo → r.hi ≡ p.hi +ℤ q.hi → IsImageOfBoth (λ x. λ y. x +ℤ y) p q r
add_image n p q r a b l h = record {
  holds = λ x y u v. record { from = omega (arith, linear, u.from, v.from); to = omega (arith, linear, u.to, v.to) };
  least = (p.lo, q.lo, lo_lies p a.ordered, lo_lies q b.ordered, sym l);
  greatest = (p.hi, q.hi, hi_lies p a.ordered, hi_lies q b.ordered, sym h);
}

pub sub_image : (n : ℕ) (p q r : Interval) → IsWithin n p → IsWithin n q → r.lo ≡ p.lo -ℤ q.hi → r.hi ≡ p.hi -ℤ q.lo → IsImageOfBoth (λ x. λ y. x -ℤ y) p q r
sub_image n p q r a b l h = record {
  holds = λ x y u v. record { from = omega (arith, linear, u.from, v.to); to = omega (arith, linear, u.to, v.from) };
  least = (p.lo, q.hi, lo_lies p a.ordered, hi_lies q b.ordered, sym l);
  greatest = (p.hi, q.lo, hi_lies p a.ordered, lo_lies q b.ordered, sym h);
}

-- the lesser of two is one of them, and no greater than either
pub min_one : (x y : ℤ) → (int_min x y ≡ x) ⊎ (int_min x y ≡ y)
min_one x y = by_lt_z x y (λ h. inl (omega (arith, linear, clamps))) (λ h. inr (omega (arith, linear, clamps)))

pub max_one : (x y : ℤ) → (int_max x y ≡ x) ⊎ (int_max x y ≡ y)
max_one x y = by_lt_z x y (λ h. inr (omega (arith, linear, clamps))) (λ h. inl (omega (arith, linear, clamps)))

pub max_image : (p q r : Interval) → p.lo ≤ℤ p.hi → q.lo ≤ℤ q.hi → r.lo ≡ int_max p.lo q.lo → r.hi ≡ int_max p.hi q.hi → IsImageOfBoth (λ x. λ y. int_max x y) p q r
max_image p q r a b l h = record {
  holds = λ x y u v. record { from = omega (arith, linear, clamps, u.from, v.from); to = omega (arith, linear, clamps, u.to, v.to) };
  least = (p.lo, q.lo, lo_lies p a, lo_lies q b, sym l);
  greatest = (p.hi, q.hi, hi_lies p a, hi_lies q b, sym h);
}

pub min_image : (p q r : Interval) → p.lo ≤ℤ p.hi → q.lo ≤ℤ q.hi → r.lo ≡ int_min p.lo q.lo → r.hi ≡ int_min p.hi q.hi → IsImageOfBoth (λ x. λ y. int_min x y) p q r
min_image p q r a b l h = record {
  holds = λ x y u v. record { from = omega (arith, linear, clamps, u.from, v.from); to = omega (arith, linear, clamps, u.to, v.to) };
  least = (p.lo, q.lo, lo_lies p a, lo_lies q b, sym l);
  greatest = (p.hi, q.hi, hi_lies p a, hi_lies q b, sym h);
}

-- m is one of the products of the ends
abbrev IsCorner : Interval → Interval → ℤ → Type 0
IsCorner p q m = (m ≡ p.lo *ℤ q.lo) ⊎ (m ≡ p.lo *ℤ q.hi) ⊎ (m ≡ p.hi *ℤ q.lo) ⊎ (m ≡ p.hi *ℤ q.hi)

-- the least of four numbers is one of them
pub least_one : (a b c d : ℤ) → (int_min (int_min a b) (int_min c d) ≡ a) ⊎ (int_min (int_min a b) (int_min c d) ≡ b) ⊎ (int_min (int_min a b) (int_min c d) ≡ c) ⊎ (int_min (int_min a b) (int_min c d) ≡ d)
least_one a b c d = elim (min_one (int_min a b) (int_min c d)) [
  | inl e ↦ elim (min_one a b) [ inl f ↦ inl (e ∙ f) | inr f ↦ inr (inl (e ∙ f)) ]
  | inr e ↦ elim (min_one c d) [ inl f ↦ inr (inr (inl (e ∙ f))) | inr f ↦ inr (inr (inr (e ∙ f))) ]
]

pub greatest_one : (a b c d : ℤ) → (int_max (int_max a b) (int_max c d) ≡ a) ⊎ (int_max (int_max a b) (int_max c d) ≡ b) ⊎ (int_max (int_max a b) (int_max c d) ≡ c) ⊎ (int_max (int_max a b) (int_max c d) ≡ d)
greatest_one a b c d = elim (max_one (int_max a b) (int_max c d)) [
  | inl e ↦ elim (max_one a b) [ inl f ↦ inl (e ∙ f) | inr f ↦ inr (inl (e ∙ f)) ]
  | inr e ↦ elim (max_one c d) [ inl f ↦ inr (inr (inl (e ∙ f))) | inr f ↦ inr (inr (inr (e ∙ f))) ]
]

-- the numbers a, b, c, d are the products of the ends
module _ (p q r : Interval) (a b c d : ℤ) (ordered_p : p.lo ≤ℤ p.hi) (ordered_q : q.lo ≤ℤ q.hi) (ea : a ≡ p.lo *ℤ q.lo) (eb : b ≡ p.lo *ℤ q.hi) (ec : c ≡ p.hi *ℤ q.lo) (ed : d ≡ p.hi *ℤ q.hi) (el : r.lo ≡ int_min (int_min a b) (int_min c d)) (eh : r.hi ≡ int_max (int_max a b) (int_max c d)) where
  product_from : (x y : ℤ) → Lies x p → Lies y q → r.lo ≤ℤ (x *ℤ y)
  product_from x y u v =
      let s = multiple_from q.lo y q.hi p.lo r.lo v.from v.to (omega (arith, linear, clamps)) (omega (arith, linear, clamps)) in
      let t = multiple_from q.lo y q.hi p.hi r.lo v.from v.to (omega (arith, linear, clamps)) (omega (arith, linear, clamps)) in
      let f = *ℤ_comm p.lo y in
      let g = *ℤ_comm p.hi y in
      subst (λ (z : ℤ). r.lo ≤ℤ z) (*ℤ_comm y x) (multiple_from p.lo x p.hi y r.lo u.from u.to (subst (λ (z : ℤ). r.lo ≤ℤ z) f s) (subst (λ (z : ℤ). r.lo ≤ℤ z) g t))

  product_to : (x y : ℤ) → Lies x p → Lies y q → (x *ℤ y) ≤ℤ r.hi
  product_to x y u v =
      let s = multiple_to q.lo y q.hi p.lo r.hi v.from v.to (omega (arith, linear, clamps)) (omega (arith, linear, clamps)) in
      let t = multiple_to q.lo y q.hi p.hi r.hi v.from v.to (omega (arith, linear, clamps)) (omega (arith, linear, clamps)) in
      let f = *ℤ_comm p.lo y in
      let g = *ℤ_comm p.hi y in
      subst (λ (z : ℤ). z ≤ℤ r.hi) (*ℤ_comm y x) (multiple_to p.lo x p.hi y r.hi u.from u.to (subst (λ (z : ℤ). z ≤ℤ r.hi) f s) (subst (λ (z : ℤ). z ≤ℤ r.hi) g t))

  reached : (m : ℤ) → IsCorner p q m → (x : ℤ) × (y : ℤ) × Lies x p × Lies y q × (x *ℤ y ≡ m)
  reached m (inl e) = (p.lo, q.lo, lo_lies p ordered_p, lo_lies q ordered_q, sym e)
  reached m (inr (inl e)) = (p.lo, q.hi, lo_lies p ordered_p, hi_lies q ordered_q, sym e)
  reached m (inr (inr (inl e))) = (p.hi, q.lo, hi_lies p ordered_p, lo_lies q ordered_q, sym e)
  reached m (inr (inr (inr e))) = (p.hi, q.hi, hi_lies p ordered_p, hi_lies q ordered_q, sym e)

  corner : (m z : ℤ) → m ≡ z → (z ≡ a) ⊎ (z ≡ b) ⊎ (z ≡ c) ⊎ (z ≡ d) → IsCorner p q m
  corner m z e (inl f) = inl (e ∙ f ∙ ea)
  corner m z e (inr (inl f)) = inr (inl (e ∙ f ∙ eb))
  corner m z e (inr (inr (inl f))) = inr (inr (inl (e ∙ f ∙ ec)))
  corner m z e (inr (inr (inr f))) = inr (inr (inr (e ∙ f ∙ ed)))

  pub mul_image : IsImageOfBoth (λ x. λ y. x *ℤ y) p q r
  mul_image = record {
    holds = λ x y u v. record { from = product_from x y u v; to = product_to x y u v };
    least = reached r.lo (corner r.lo (int_min (int_min a b) (int_min c d)) el (least_one a b c d));
    greatest = reached r.hi (corner r.hi (int_max (int_max a b) (int_max c d)) eh (greatest_one a b c d));
  }

-- the ends of a sum and of a difference
pub add_ends : (p q r : Interval) → p.lo ≤ℤ p.hi → q.lo ≤ℤ q.hi → IsImageOfBoth (λ x. λ y. x +ℤ y) p q r → (r.lo ≡ p.lo +ℤ q.lo) × (r.hi ≡ p.hi +ℤ q.hi)
add_ends p q r a b h =
    let (x, y, u, v, e) = h.least in
    let (z, w, s, t, f) = h.greatest in
    let l = h.holds p.lo q.lo (lo_lies p a) (lo_lies q b) in
    let k = h.holds p.hi q.hi (hi_lies p a) (hi_lies q b) in
    (omega (arith, linear, u.from, v.from, l.from), omega (arith, linear, s.to, t.to, k.to))

pub sub_ends : (p q r : Interval) → p.lo ≤ℤ p.hi → q.lo ≤ℤ q.hi → IsImageOfBoth (λ x. λ y. x -ℤ y) p q r → (r.lo ≡ p.lo -ℤ q.hi) × (r.hi ≡ p.hi -ℤ q.lo)
sub_ends p q r a b h =
    let (x, y, u, v, e) = h.least in
    let (z, w, s, t, f) = h.greatest in
    let l = h.holds p.lo q.hi (lo_lies p a) (hi_lies q b) in
    let k = h.holds p.hi q.lo (hi_lies p a) (lo_lies q b) in
    (omega (arith, linear, u.from, v.to, l.from), omega (arith, linear, s.to, t.from, k.to))
