-- Sums of index values that meet under opposite coefficients.
use Rattle.std.proofs.Common.{◌≡◌, ◌↔◌, refl, sym, ap, subst, ◌∙◌, arith, ℤ, pos, ◌+ℤ◌, ◌-ℤ◌, ◌*ℤ◌, neg_ℤ, ◌<ℤ◌, Bool, not, IsTrue}
use borrow.Author.Differences.{product_is}
use Rattle.std.proofs.lemmas.Int.{by_lt_z}
use Rattle.std.proofs.lemmas.Bool.Decides.{Decides-not, Decides-like}
use Rattle.ped_views.specs.declared.directions.Direction.{Direction}
use Rattle.ped_views.specs.declared.directions.Direction.TheVariants.{Before, Same, After}
use Rattle.ped_views.specs.Whole.{Divides}
use Rattle.ped_views.specs.Views.{Range}
use Rattle.ped_views.specs.Excluded.{StandsByValue, by_value, InRange, Meets, NeverMeets}
use Rattle.ped_views.proofs.Products.{linear, mul-add, neg-mul, mul-cancel}
use Rattle.ped_siv.specs.Fits.{FitsSum}

-- the sum of two values of the range fits
sum_fits : (r : Range) (d : Direction) (i j s : ℤ) → InRange r i → InRange r j → StandsByValue d i j → i +ℤ j ≡ s → FitsSum d s (r.lo +ℤ r.lo) (r.hi +ℤ r.hi)
sum_fits r Before i j s p q t e = (omega (arith, linear), omega (arith, linear))
sum_fits r Same i j s p q t e = (omega (arith, linear), omega (arith, linear), (i, omega (arith, linear, product_is)))
sum_fits r After i j s p q t e = (omega (arith, linear), omega (arith, linear))

-- two values of the range with a sum
record Pair (r : Range) (d : Direction) (s : ℤ) : Type 0 where
  i : ℤ
  j : ℤ
  source : InRange r i
  sink : InRange r j
  stands : StandsByValue d i j
  sum : i +ℤ j ≡ s

-- the greater is the end of the range, or the lesser is its start
ordered : (r : Range) (s : ℤ) → (r.lo +ℤ r.lo) <ℤ s → s <ℤ (r.hi +ℤ r.hi) → Pair r Before s
ordered r s l h = by_lt_z r.lo (s -ℤ r.hi)
    (λ t. record { i = s -ℤ r.hi; j = r.hi; source = record { from = omega (arith, linear); to = omega (arith, linear) }; sink = record { from = omega (arith, linear); to = omega (arith, linear) }; stands = omega (arith, linear); sum = omega (arith, linear) })
    (λ t. record { i = r.lo; j = s -ℤ r.lo; source = record { from = omega (arith, linear); to = omega (arith, linear) }; sink = record { from = omega (arith, linear); to = omega (arith, linear) }; stands = omega (arith, linear); sum = omega (arith, linear) })

pair_of : (r : Range) (d : Direction) (s : ℤ) → FitsSum d s (r.lo +ℤ r.lo) (r.hi +ℤ r.hi) → Pair r d s
pair_of r Before s f = ordered r s f.0 f.1
pair_of r Same s (l, h, (k, e)) = record { i = k; j = k; source = record { from = omega (arith, linear, product_is); to = omega (arith, linear, product_is) }; sink = record { from = omega (arith, linear, product_is); to = omega (arith, linear, product_is) }; stands = refl; sum = omega (arith, linear, product_is) }
pair_of r After s f =
    let p = ordered r s f.0 f.1 in
    let e = p.sum in
    record { i = p.j; j = p.i; source = p.sink; sink = p.source; stands = p.stands; sum = omega (arith, linear) }

module _ (a b c1 c2 : ℤ) (r : Range) (d : Direction) (form : a ≡ neg_ℤ b) where
  opposite : (j : ℤ) → a *ℤ j ≡ neg_ℤ (b *ℤ j)
  opposite j = ap (λ (x : ℤ). x *ℤ j) form ∙ neg-mul b j

  sum_of : (i j : ℤ) → Meets a b c1 c2 r d i j → a *ℤ (i +ℤ j) ≡ c2 -ℤ c1
  sum_of i j m = let o = opposite j in let s = mul-add a i j in let e = m.equal in omega (arith, linear)

  -- a difference that the coefficient doesn't divide
  pub never_whole : ¬ (Divides a (c2 -ℤ c1)) → NeverMeets a b c1 c2 r d
  never_whole n i j m = n (i +ℤ j, sum_of i j m)

  pub decided_by_sum : (s : ℤ) (fits : Bool) → ¬ (a ≡ pos 0) → a *ℤ s ≡ c2 -ℤ c1 → (IsTrue fits ↔ FitsSum (by_value r.step d) s (r.lo +ℤ r.lo) (r.hi +ℤ r.hi)) → IsTrue (not fits) ↔ NeverMeets a b c1 c2 r d
  decided_by_sum s fits some is h = Decides-like (not fits) never (λ n f. at f n) (Decides-not fits h)
    where
      never : ¬ (FitsSum (by_value r.step d) s (r.lo +ℤ r.lo) (r.hi +ℤ r.hi)) → NeverMeets a b c1 c2 r d
      never n i j m = n (sum_fits r (by_value r.step d) i j s m.source m.sink m.stands (mul-cancel a (i +ℤ j) s some (sum_of i j m ∙ sym is)))

      at : FitsSum (by_value r.step d) s (r.lo +ℤ r.lo) (r.hi +ℤ r.hi) → ¬ (NeverMeets a b c1 c2 r d)
      at f x =
          let p = pair_of r (by_value r.step d) s f in
          let o = opposite p.j in
          let e = mul-add a p.i p.j in
          let t = ap (λ (y : ℤ). a *ℤ y) p.sum in
          x p.i p.j (record { source = p.source; sink = p.sink; stands = p.stands; equal = omega (arith, linear) })

-- the code's test of the sum, over the range that it reads
pub decided_by_sum_at : (a b c1 c2 : ℤ) (r now : Range) (d e : Direction) (s least greatest : ℤ) (fits : Bool) → a ≡ neg_ℤ b → ¬ (a ≡ pos 0) → r ≡ now → e ≡ by_value r.step d → least ≡ r.lo +ℤ r.lo → greatest ≡ r.hi +ℤ r.hi → a *ℤ s ≡ c2 -ℤ c1 → (IsTrue fits ↔ FitsSum e s least greatest) → IsTrue (not fits) ↔ NeverMeets a b c1 c2 now d
decided_by_sum_at a b c1 c2 r now d e s least greatest fits form some shown turns l g is h =
    subst (λ (v : Range). IsTrue (not fits) ↔ NeverMeets a b c1 c2 v d) shown (decided_by_sum a b c1 c2 r d form s fits some is fit)
  where
    fit : IsTrue fits ↔ FitsSum (by_value r.step d) s (r.lo +ℤ r.lo) (r.hi +ℤ r.hi)
    fit =
        subst (λ (x : Direction). IsTrue fits ↔ FitsSum x s (r.lo +ℤ r.lo) (r.hi +ℤ r.hi)) turns
        (subst (λ (x : ℤ). IsTrue fits ↔ FitsSum e s (r.lo +ℤ r.lo) x) g (subst (λ (x : ℤ). IsTrue fits ↔ FitsSum e s x greatest) l h))
