-- When two plain records are equal: where their fields are, and what a test of each field tells.
use Rattle.std.proofs.Common.{◌≡◌, ◌&&◌, arith, ℤ, pos, Bool, false, nat_eq, of_z, to_z, w64, FitsSigned, ap, sym, ◌∙◌}
use Rattle.std.specs.Bool.{Decides, beq}
use Rattle.std.specs.Ordering.{int_eq}
use Rattle.std.specs.Cmp.{booleans_Decides}
use Rattle.std.proofs.lemmas.Bool.Decides.{Decides-int_eq, Decides-eqb, Decides-and, Decides-like}
use Rattle.std.specs.Int.{w128}
use Rattle.std.proofs.lemmas.Int.{to_z-of_z, ints}
use Rattle.ped_views.specs.Views.{Range, Row}

-- the derived test on ranges
pub range_decided : (a b : Range) → Decides (int_eq a.lo b.lo && (int_eq a.hi b.hi && (int_eq a.step b.step && beq a.steady b.steady))) (a ≡ b)
range_decided a b =
    Decides-like _ (λ h. same h.0 h.1.0 h.1.1.0 h.1.1.1) (λ e. (ap (λ r. r.lo) e, (ap (λ r. r.hi) e, (ap (λ r. r.step) e, ap (λ r. r.steady) e))))
    (Decides-and _ _ (Decides-int_eq a.lo b.lo) (Decides-and _ _ (Decides-int_eq a.hi b.hi) (Decides-and _ _ (Decides-int_eq a.step b.step) (booleans_Decides a.steady b.steady))))
  where
    same : a.lo ≡ b.lo → a.hi ≡ b.hi → a.step ≡ b.step → a.steady ≡ b.steady → a ≡ b
    same l h s t = λ i. record { lo = l i; hi = h i; step = s i; steady = t i }

-- the code's test on numbers
pub number_decided : (x y : ℤ) → FitsSigned w64 x → FitsSigned w64 y → Decides (nat_eq (of_z w64 x) (of_z w64 y)) (x ≡ y)
number_decided x y p q =
    Decides-like _ (λ e. sym (to_z-of_z w64 x p) ∙ ap (to_z w64) e ∙ to_z-of_z w64 y q) (λ e. ap (of_z w64) e) (Decides-eqb (of_z w64 x) (of_z w64 y))

-- the code's test for 0
pub zero_decided : (x : ℤ) → FitsSigned w128 x → Decides (nat_eq (of_z w128 x) 0) (x ≡ pos 0)
zero_decided x f = Decides-like _ (λ (e : of_z w128 x ≡ 0). omega (arith, ints)) (λ e. ap (of_z w128) e) (Decides-eqb (of_z w128 x) 0)

-- rows with equal coefficients are equal where their constants are
pub row_decided : (a b : Row) (t : Bool) → a.common ≡ b.common → a.inner ≡ b.inner → Decides t (a.constant ≡ b.constant) → Decides t (a ≡ b)
row_decided a b t c n = Decides-like t (λ (k : a.constant ≡ b.constant). λ i. record { common = c i; inner = n i; constant = k i }) (λ e. ap (λ r. r.constant) e)

-- the test of values that are shown as these
pub shown : {A : Type 0} (a b x y : A) (t : Bool) → a ≡ x → b ≡ y → Decides t (a ≡ b) → Decides t (x ≡ y)
shown a b x y t p q = Decides-like t (λ e. sym p ∙ e ∙ q) (λ e. p ∙ e ∙ sym q)

-- a test that fails where two values differ
pub differs : {P : Type 0} (t : Bool) → t ≡ false → ¬ P → Decides t P
differs t e n = (λ h. absurd (cc), λ p. absurd (n p))
