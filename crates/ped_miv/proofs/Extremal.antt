-- Least and greatest numbers: of the same numbers, of sums, and of numbers of which some few are the extremes.
use Rattle.std.proofs.Common.{◌≡◌, ℕ, ◌≤◌, refl, sym, subst, ◌∙◌, arith, inl, inr, ℤ, ◌+ℤ◌, ◌≤ℤ◌, Option, Some, None, unsigned_abs}
use Rattle.std.proofs.lemmas.Int.{clamps}
use Rattle.std.specs.Int.{int_max, int_min}
use Rattle.ped_views.specs.declared.intervals.Interval.{Interval}
use Rattle.ped_views.specs.Intervals.{IsWithin}
use Rattle.ped_views.proofs.Products.{linear}
use Rattle.ped_views.proofs.Images.{min_one, max_one, least_one, greatest_one}
use Rattle.ped_miv.specs.Values.{Extreme, AreExtremes, Plus}

-- extremes are those of the numbers, however they are said
pub extremes_same : (P Q : ℤ → Type 0) (o : Option Interval) → ((v : ℤ) → P v → Q v) → ((v : ℤ) → Q v → P v) → AreExtremes P o → AreExtremes Q o
extremes_same P Q None to from h = λ v q. h v (from v q)
extremes_same P Q (Some r) to from h = record { least = to r.lo h.least; greatest = to r.hi h.greatest; between = λ v q. h.between v (from v q) }

-- the least sum is the sum of the least, and the greatest that of the greatest
pub extreme_plus : (P Q : ℤ → Type 0) (l h m n : ℤ) → Extreme P l h → Extreme Q m n → Extreme (Plus P Q) (l +ℤ m) (h +ℤ n)
extreme_plus P Q l h m n p q = record {
  least = (l, m, p.least, q.least, refl);
  greatest = (h, n, p.greatest, q.greatest, refl);
  between = λ v (x, y, a, b, e). let s = p.between x a in let t = q.between y b in (omega (arith, linear, s, t, e), omega (arith, linear, s, t, e));
}

-- two numbers of P between which all lie
pub extreme_of_two : (P : ℤ → Type 0) (x y : ℤ) (r : Interval) → P x → P y → r.lo ≡ int_min x y → r.hi ≡ int_max x y → ((v m : ℤ) → P v → m ≤ℤ x → m ≤ℤ y → m ≤ℤ v) → ((v m : ℤ) → P v → x ≤ℤ m → y ≤ℤ m → v ≤ℤ m) → Extreme P r.lo r.hi
extreme_of_two P x y r p q l h from to = record {
  least = elim (min_one x y) [ inl e ↦ subst P (sym (l ∙ e)) p | inr e ↦ subst P (sym (l ∙ e)) q ];
  greatest = elim (max_one x y) [ inl e ↦ subst P (sym (h ∙ e)) p | inr e ↦ subst P (sym (h ∙ e)) q ];
  between = λ v s. (from v r.lo s (omega (arith, linear, clamps)) (omega (arith, linear, clamps)), to v r.hi s (omega (arith, linear, clamps)) (omega (arith, linear, clamps)));
}

pub within_two : (n : ℕ) (x y : ℤ) (r : Interval) → r.lo ≡ int_min x y → r.hi ≡ int_max x y → unsigned_abs x ≤ n → unsigned_abs y ≤ n → IsWithin n r
within_two n x y r l h p q = record {
  ordered = omega (arith, linear, clamps);
  lo_small = elim (min_one x y) [ inl e ↦ rw (l, e) p | inr e ↦ rw (l, e) q ];
  hi_small = elim (max_one x y) [ inl e ↦ rw (h, e) p | inr e ↦ rw (h, e) q ];
}

-- four numbers of P between which all lie
module _ (w x y z : ℤ) (r : Interval) (l : r.lo ≡ int_min (int_min w x) (int_min y z)) (h : r.hi ≡ int_max (int_max w x) (int_max y z)) where
  pub extreme_of_four : (P : ℤ → Type 0) → P w → P x → P y → P z → ((v m : ℤ) → P v → m ≤ℤ w → m ≤ℤ x → m ≤ℤ y → m ≤ℤ z → m ≤ℤ v) → ((v m : ℤ) → P v → w ≤ℤ m → x ≤ℤ m → y ≤ℤ m → z ≤ℤ m → v ≤ℤ m) → Extreme P r.lo r.hi
  extreme_of_four P p q s t from to = record {
    least = elim (least_one w x y z) [ inl e ↦ subst P (sym (l ∙ e)) p | inr (inl e) ↦ subst P (sym (l ∙ e)) q | inr (inr (inl e)) ↦ subst P (sym (l ∙ e)) s | inr (inr (inr e)) ↦ subst P (sym (l ∙ e)) t ];
    greatest = elim (greatest_one w x y z) [ inl e ↦ subst P (sym (h ∙ e)) p | inr (inl e) ↦ subst P (sym (h ∙ e)) q | inr (inr (inl e)) ↦ subst P (sym (h ∙ e)) s | inr (inr (inr e)) ↦ subst P (sym (h ∙ e)) t ];
    between = λ v u. (
      from v r.lo u (omega (arith, linear, clamps)) (omega (arith, linear, clamps)) (omega (arith, linear, clamps)) (omega (arith, linear, clamps)),
      to v r.hi u (omega (arith, linear, clamps)) (omega (arith, linear, clamps)) (omega (arith, linear, clamps)) (omega (arith, linear, clamps)),
    );
  }

  pub within_four : (n : ℕ) → unsigned_abs w ≤ n → unsigned_abs x ≤ n → unsigned_abs y ≤ n → unsigned_abs z ≤ n → IsWithin n r
  within_four n p q s t = record {
    ordered = omega (arith, linear, clamps);
    lo_small = elim (least_one w x y z) [ inl e ↦ rw (l, e) p | inr (inl e) ↦ rw (l, e) q | inr (inr (inl e)) ↦ rw (l, e) s | inr (inr (inr e)) ↦ rw (l, e) t ];
    hi_small = elim (greatest_one w x y z) [ inl e ↦ rw (h, e) p | inr (inl e) ↦ rw (h, e) q | inr (inr (inl e)) ↦ rw (h, e) s | inr (inr (inr e)) ↦ rw (h, e) t ];
  }
