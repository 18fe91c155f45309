-- What an exact quotient of equal numbers says.
use Rattle.std.proofs.Common.{◌≡◌, subst, ℤ, pos, ◌*ℤ◌, Bool, IsTrue, ◌↔◌, nat_eq, FitsSigned, to_z, of_z, Option, MatchOption, ap, sym, ◌∙◌}
use Rattle.std.specs.Int.{w128}
use Rattle.std.proofs.lemmas.Int.{to_z-of_z}
use Rattle.std.proofs.lemmas.Bool.Decides.{Decides-eqb}
use Rattle.std.proofs.Math.IntN.{*ℤ-zero}
use Rattle.ped_views.specs.Whole.{Divides}
use Rattle.ped_views.proofs.Products.{mul-cancel}

-- what an exact quotient of equal numbers says
pub quotient_at : (o : Option ℤ) (d e n m : ℤ) → d ≡ e → n ≡ m → MatchOption o (¬ (Divides d n)) (λ k. d *ℤ k ≡ n) → MatchOption o (¬ (Divides e m)) (λ k. e *ℤ k ≡ m)
quotient_at o d e n m p q h =
    subst (λ (x : ℤ). MatchOption o (¬ (Divides x m)) (λ k. x *ℤ k ≡ m)) p
    (subst (λ (x : ℤ). MatchOption o (¬ (Divides d x)) (λ k. d *ℤ k ≡ x)) q h)

pub product_some : (a b : ℤ) → ¬ (a ≡ pos 0) → ¬ (b ≡ pos 0) → ¬ (a *ℤ b ≡ pos 0)
product_some a b n m e = m (mul-cancel a b (pos 0) n (e ∙ sym (*ℤ-zero a)))

-- two signed numbers of one width are equal where their words are
pub same_words : (x y : ℤ) → FitsSigned w128 x → FitsSigned w128 y → IsTrue (nat_eq (of_z w128 x) (of_z w128 y)) ↔ (x ≡ y)
same_words x y f g = (
  λ t. sym (to_z-of_z w128 x f) ∙ ap (to_z w128) ((Decides-eqb (of_z w128 x) (of_z w128 y)).0 t) ∙ to_z-of_z w128 y g,
  λ e. (Decides-eqb (of_z w128 x) (of_z w128 y)).1 (ap (of_z w128) e),
)

-- a row has one distance
pub one_distance : (a own distance n : ℤ) (t : Bool) → ¬ (a ≡ pos 0) → a *ℤ own ≡ n → (IsTrue t ↔ (own ≡ distance)) → IsTrue t ↔ (a *ℤ distance ≡ n)
one_distance a own distance n t some is same = (
  λ x. subst (λ (d : ℤ). a *ℤ d ≡ n) (same.0 x) is,
  λ e. same.1 (mul-cancel a own distance some (is ∙ sym e)),
)
