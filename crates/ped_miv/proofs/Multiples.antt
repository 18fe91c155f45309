-- Sets of multiples: of a greatest common divisor, and of a loop over parts of a sum.
use Rattle.std.proofs.Common.{◌≡◌, ◌↔◌, refl, sym, ap, subst, ◌∙◌, arith, ℤ, pos, ◌+ℤ◌, ◌-ℤ◌, ◌*ℤ◌, neg_ℤ, Option, Some}
use Rattle.std.proofs.Math.IntN.{zero-*ℤ, *ℤ-zero}
use Rattle.ped_views.specs.declared.directions.Direction.{Direction}
use Rattle.ped_views.specs.declared.directions.Direction.TheVariants.{Same}
use Rattle.ped_views.specs.Whole.{Divides, IsGreatestDivisor}
use Rattle.ped_views.proofs.Products.{linear, sub-mul, mul-neg}
use Rattle.ped_views.proofs.Dividing.{Divides-trans, Divides-times, Divides-add}
use Rattle.ped_miv.specs.Values.{Plus, AreMultiples, FormValue, IsShared}
use Rattle.ped_miv.proofs.Bezout.{combination}

pub Divides-neg : (g a : ℤ) → Divides g a → Divides g (neg_ℤ a)
Divides-neg g a (k, e) = (neg_ℤ k, mul-neg g k ∙ ap neg_ℤ e)

-- the form with one unknown has the multiples of the difference of the coefficients
pub shared_multiples : (d : Option Direction) (a b g : ℤ) → d ≡ Some Same → g ≡ a -ℤ b → AreMultiples (FormValue (IsShared d) a b) g
shared_multiples d a b g e f v =
    subst (λ (x : Option Direction). Divides g v ↔ FormValue (IsShared x) a b v) (sym e) (subst (λ (x : ℤ). Divides x v ↔ FormValue (IsShared (Some Same)) a b v) (sym f) (to, from))
  where
    to : Divides (a -ℤ b) v → FormValue (IsShared (Some Same)) a b v
    to (k, m) = record { i = k; j = k; stand = refl; is = sym (sub-mul a b k) ∙ m }

    from : FormValue (IsShared (Some Same)) a b v → Divides (a -ℤ b) v
    from u =
        let s = sub-mul a b u.i in
        let t = ap (λ (x : ℤ). b *ℤ x) u.stand in
        let m = u.is in
        (u.i, omega (arith, linear))

-- the form with two unknowns has the multiples of the greatest common divisor of the coefficients
pub apart_multiples : (d : Option Direction) (a b g : ℤ) → ((i j : ℤ) → IsShared d i j) → IsGreatestDivisor a b g → AreMultiples (FormValue (IsShared d) a b) g
apart_multiples d a b g all h v = (to, from)
  where
    to : Divides g v → FormValue (IsShared d) a b v
    to m =
        let c = combination a b g v h m in
        let n = mul-neg b c.1 in
        let e = c.2 in
        record { i = c.0; j = neg_ℤ c.1; stand = all c.0 (neg_ℤ c.1); is = omega (arith, linear) }

    from : FormValue (IsShared d) a b v → Divides g v
    from u =
        let n = mul-neg b u.j in
        let e = u.is in
        let s : a *ℤ u.i +ℤ b *ℤ neg_ℤ u.j ≡ v = omega (arith, linear) in
        subst (λ (z : ℤ). Divides g z) s (Divides-add g (a *ℤ u.i) (b *ℤ neg_ℤ u.j) (Divides-times g a u.i h.divides_first) (Divides-times g b (neg_ℤ u.j) h.divides_second))

-- a loop over parts of a sum: the parts so far add the multiples of g, whatever the parts ahead are
abbrev pub AreAhead : (ℤ → Type 0) → (ℤ → Type 0) → ℤ → Type 0
AreAhead whole ahead g = (v : ℤ) → whole v ↔ Plus (Divides g) ahead v

pub AreAhead-start : (whole : ℤ → Type 0) (g : ℤ) → g ≡ pos 0 → AreAhead whole whole g
AreAhead-start whole g e v = (λ w. (pos 0, v, (pos 0, *ℤ-zero g), w, omega (arith, linear)), from)
  where
    from : Plus (Divides g) whole v → whole v
    from (x, y, (k, m), w, s) =
        let z : x ≡ pos 0 = sym m ∙ ap (λ (t : ℤ). t *ℤ k) e ∙ zero-*ℤ k in
        let t : y ≡ v = omega (arith, linear) in
        subst whole t w

pub AreAhead-end : (whole ahead : ℤ → Type 0) (g : ℤ) → AreAhead whole ahead g → ((v : ℤ) → ahead v ↔ (v ≡ pos 0)) → AreMultiples whole g
AreAhead-end whole ahead g a e v = (λ m. (a v).1 (v, pos 0, m, (e (pos 0)).1 refl, omega (arith, linear)), from)
  where
    from : whole v → Divides g v
    from w =
        let (x, y, m, p, s) = (a v).0 w in
        let z = (e y).0 p in
        let t : x ≡ v = omega (arith, linear) in
        subst (λ (n : ℤ). Divides g n) t m

pub AreAhead-step : (whole ahead part rest : ℤ → Type 0) (g h more : ℤ) → AreAhead whole ahead g → ((v : ℤ) → ahead v ↔ Plus part rest v) → AreMultiples part h → IsGreatestDivisor g h more → AreAhead whole rest more
AreAhead-step whole ahead part rest g h more a opens part_is d v = (to, from)
  where
    to : whole v → Plus (Divides more) rest v
    to w =
        let (x, y, m, p, s) = (a v).0 w in
        let (t, r, q, u, e) = (opens y).0 p in
        (x +ℤ t, r, Divides-add more x t (Divides-trans more g x d.divides_first m) (Divides-trans more h t d.divides_second ((part_is t).1 q)), u, omega (arith, linear))

    from : Plus (Divides more) rest v → whole v
    from (z, r, m, u, s) =
        let c = combination g h more z d m in
        let e = c.2 in
        (a v).1 (g *ℤ c.0, h *ℤ c.1 +ℤ r, (c.0, refl), (opens (h *ℤ c.1 +ℤ r)).1 (h *ℤ c.1, r, (part_is (h *ℤ c.1)).0 (c.1, refl), u, refl), omega (arith, linear))
