-- One step of the loop that decides about distances.
use Rattle.std.proofs.Common.{◌≡◌, ℕ, ℤ, ◌-ℤ◌, ◌*ℤ◌, List, ◌∷◌, true, ◌&&◌, if◌then◌else◌, refl, ap, ◌∙◌}
use Rattle.std.proofs.lemmas.Bool.Decides.{Decides-eqb}
use Rattle.ped_views.specs.Whole.{whole_quotient}
use Rattle.ped_views.specs.Views.{SubscriptPair}
use Rattle.ped_views.specs.Forms.{form_of, is_strong_in}
use Rattle.ped_views.specs.Vectors.{strong_distance, first_distance}
use Rattle.ped_verdict.specs.CodeForms.{IsStrongBy}

-- the first position that is strong in the loop decides
pub strong_first : (a : ℤ) (k : ℕ) (step : ℤ) (p : SubscriptPair) (ps : List SubscriptPair) → IsStrongBy a k p → first_distance k step (p ∷ ps) ≡ whole_quotient (p.source.constant -ℤ p.sink.constant) (a *ℤ step)
strong_first a k step p ps h =
    let t : (p.usable && is_strong_in k (form_of p)) ≡ true = ap (λ b. b && is_strong_in k (form_of p)) h.usable ∙ ap (is_strong_in k) h.form ∙ (Decides-eqb k k).1 refl in
    ap (λ b. if b then strong_distance (form_of p) step p else first_distance k step ps) t ∙ ap (λ f. strong_distance f step p) h.form
