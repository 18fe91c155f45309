-- The sums of multiples of whole numbers are the multiples of one whole number.
use Rattle.std.proofs.Common.{◌≡◌, ℕ, zero, suc, ◌≤◌, refl, sym, ap, ◌∙◌, inl, inr, arith, ℤ, pos, ◌+ℤ◌, ◌-ℤ◌, ◌*ℤ◌, neg_ℤ, unsigned_abs, int_div, int_rem}
use Rattle.std.proofs.Math.IntN.{*ℤ_comm, zero-*ℤ}
use Rattle.std.proofs.lemmas.Int.{ints, quot-rem, rem_below}
use Rattle.ped_rules.specs.ped_views.specs.Whole.{Divides}
use Rattle.ped_rules.specs.ped_views.proofs.Products.{linear, mul-add, mul-neg, mul-sub, mul-assoc, abs_some}
use Rattle.ped_splits.proofs.Existence.Sentences.{Decided}
use Rattle.ped_splits.proofs.Existence.Deciding.{equal_decided}
use Rattle.ped_splits.proofs.Existence.Reaching.{Sum}

-- the numbers of P are the multiples of one number
pub record AreMultiples (P : ℤ → Type 0) : Type 0 where
  pub of : ℤ
  pub to : (v : ℤ) → P v → Divides of v
  pub from : (v : ℤ) → Divides of v → P v

pub multiples_same : (P Q : ℤ → Type 0) → ((v : ℤ) → P v → Q v) → ((v : ℤ) → Q v → P v) → AreMultiples P → AreMultiples Q
multiples_same P Q to from m = record { of = m.of; to = λ v q. m.to v (from v q); from = λ v d. to v (m.from v d) }

-- 0 alone
pub multiples_of_zero : AreMultiples (λ v. pos 0 ≡ v)
multiples_of_zero = record { of = pos 0; to = λ v e. (pos 0, e); from = λ v d. sym (zero-*ℤ d.0) ∙ d.1 }

-- a sum of multiples of a and b
pub record Combined (a b v : ℤ) : Type 0 where
  pub i : ℤ
  pub j : ℤ
  pub is : a *ℤ i +ℤ b *ℤ j ≡ v

-- Euclid's step: a is q times b and r
step_to : (a b q r i j v : ℤ) → q *ℤ b +ℤ r ≡ a → a *ℤ i +ℤ b *ℤ j ≡ v → b *ℤ (q *ℤ i +ℤ j) +ℤ r *ℤ i ≡ v
step_to a b q r i j v e f =
    let m = mul-add b (q *ℤ i) j in
    let n = mul-assoc b q i in
    let c = *ℤ_comm b q in
    let c' = ap (λ (x : ℤ). x *ℤ i) c in
    let s = ap (λ (x : ℤ). x *ℤ i) e in
    let d = *ℤ_comm (q *ℤ b +ℤ r) i in
    let g = mul-add i (q *ℤ b) r in
    let c1 = *ℤ_comm i (q *ℤ b) in
    let c2 = *ℤ_comm i r in
    omega (arith, linear)

step_from : (a b q r i j v : ℤ) → q *ℤ b +ℤ r ≡ a → b *ℤ i +ℤ r *ℤ j ≡ v → a *ℤ j +ℤ b *ℤ (i -ℤ q *ℤ j) ≡ v
step_from a b q r i j v e f =
    let m = mul-sub b i (q *ℤ j) in
    let n = mul-assoc b q j in
    let c = *ℤ_comm b q in
    let c' = ap (λ (x : ℤ). x *ℤ j) c in
    let s = ap (λ (x : ℤ). x *ℤ j) e in
    let d = *ℤ_comm (q *ℤ b +ℤ r) j in
    let g = mul-add j (q *ℤ b) r in
    let c1 = *ℤ_comm j (q *ℤ b) in
    let c2 = *ℤ_comm j r in
    omega (arith, linear)

spanned_beside_zero : (a b : ℤ) → b ≡ pos 0 → AreMultiples (Combined a b)
spanned_beside_zero a b z = record {
  of = a;
  to = λ v u. (u.i, let e = u.is in let t = times u.j in omega (arith, linear));
  from = λ v d. record { i = d.0; j = pos 0; is = let e = d.1 in let t = times (pos 0) in omega (arith, linear) };
}
  where
    times : (j : ℤ) → b *ℤ j ≡ pos 0
    times j = ap (λ (x : ℤ). x *ℤ j) z ∙ zero-*ℤ j

spanned_within : (fuel : ℕ) (a b : ℤ) → unsigned_abs b ≤ fuel → AreMultiples (Combined a b)
spanned_within zero a b h = spanned_beside_zero a b (omega (arith, ints))
spanned_within (suc fuel) a b h = by (equal_decided b (pos 0)) (λ n. let small = rem_below a b (abs_some b n) in spanned_within fuel b (int_rem a b) (omega (arith, h, small)))
  where
    by : Decided (b ≡ pos 0) → (¬ (b ≡ pos 0) → AreMultiples (Combined b (int_rem a b))) → AreMultiples (Combined a b)
    by (inl z) rest = spanned_beside_zero a b z
    by (inr n) rest =
        let e = quot-rem a b in
        multiples_same (Combined b (int_rem a b)) (Combined a b)
        (λ v u. record { i = u.j; j = u.i -ℤ int_div a b *ℤ u.j; is = step_from a b (int_div a b) (int_rem a b) u.i u.j v e u.is })
        (λ v u. record { i = int_div a b *ℤ u.i +ℤ u.j; j = u.i; is = step_to a b (int_div a b) (int_rem a b) u.i u.j v e u.is })
        (rest n)

pub spanned : (a b : ℤ) → AreMultiples (Combined a b)
spanned a b = spanned_within (unsigned_abs b) a b (omega arith)

-- sums of multiples of one number and of another
pub multiples_sum : (P Q : ℤ → Type 0) → AreMultiples P → AreMultiples Q → AreMultiples (Sum P Q)
multiples_sum P Q m n = multiples_same (Combined m.of n.of) (Sum P Q)
    (λ v u. record { x = m.of *ℤ u.i; y = n.of *ℤ u.j; first = m.from (m.of *ℤ u.i) (u.i, refl); second = n.from (n.of *ℤ u.j) (u.j, refl); sum = u.is })
    (λ v s. joined v s (m.to s.x s.first) (n.to s.y s.second))
    (spanned m.of n.of)
  where
    joined : (v : ℤ) (s : Sum P Q v) → Divides m.of s.x → Divides n.of s.y → Combined m.of n.of v
    joined v s (i, e) (j, f) = record { i = i; j = j; is = (λ k. e k +ℤ f k) ∙ s.sum }

-- the multiples with the other sign
pub multiples_turned : (P : ℤ → Type 0) → AreMultiples P → AreMultiples (λ v. P (neg_ℤ v))
multiples_turned P m = record {
  of = m.of;
  to = λ v p. let d = m.to (neg_ℤ v) p in (neg_ℤ d.0, let e = d.1 in let f = mul-neg m.of d.0 in omega (arith, linear));
  from = λ v d. m.from (neg_ℤ v) (neg_ℤ d.0, mul-neg m.of d.0 ∙ ap neg_ℤ d.1);
}
