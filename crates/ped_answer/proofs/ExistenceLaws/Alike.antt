-- Whether two runs ended alike is decided.
use Rattle.std.proofs.Common.{◌≡◌, refl, sym, ap, ap₂, ◌∙◌, inl, inr, ℕ, ℤ, List, [], ◌∷◌, Option, Some, None, Bool, true, false}
use Rattle.std.specs.Bool.{Decides}
use Rattle.std.proofs.lemmas.Slice.Eq.{bytes_eq-Decides}
use Rattle.std.specs.Str.{bytes_eq}
use Rattle.ped_session.specs.ped_rules.specs.ped_eval.specs.Outcomes.{LiveRow, Outcome, Ended, Fault}
use Rattle.ped_answer.specs.Existence.Deciding.{Decided}
use Rattle.ped_answer.specs.Generated.{EndAlike}
use Rattle.ped_session.specs.ped_transformations.specs.ped_splits.proofs.Existence.Deciding.{decided_same, decided_both, equal_decided}

by_test : {P : Type 0} (r : Bool) → Decides r P → Decided P
by_test true d = inl (d.0 refl)
by_test false d = inr (λ p. absurd (let e = d.1 p in cc))

-- texts
texts : (xs ys : List ℕ) → Decided (xs ≡ ys)
texts xs ys = by_test (bytes_eq xs ys) (bytes_eq-Decides xs ys)

-- lists, where their items are
lists : {X : Type 0} → ((x y : X) → Decided (x ≡ y)) → (xs ys : List X) → Decided (xs ≡ ys)
lists each [] [] = inl refl
lists each [] (y ∷ ys) = inr (λ e. absurd (cc))
lists each (x ∷ xs) [] = inr (λ e. absurd (cc))
lists {X} each (x ∷ xs) (y ∷ ys) =
    decided_same (λ (h : (x ≡ y) × (xs ≡ ys)). ap₂ (λ (z : X) (zs : List X). z ∷ zs) h.0 h.1) (λ (e : x ∷ xs ≡ y ∷ ys). (cc, cc)) (decided_both (each x y) (lists each xs ys))

values : (x y : Option ℤ) → Decided (x ≡ y)
values None None = inl refl
values None (Some n) = inr (λ e. absurd (cc))
values (Some m) None = inr (λ e. absurd (cc))
values (Some m) (Some n) = decided_same (λ (h : m ≡ n). ap (λ (z : ℤ). Some z) h) (λ (e : Some m ≡ Some n). cc) (equal_decided m n)

rows : (a b : LiveRow) → Decided (a ≡ b)
rows a b =
    decided_same (λ (h : (a.name ≡ b.name) × (a.values ≡ b.values)). λ i. record { name = h.0 i; values = h.1 i })
    (λ (e : a ≡ b). (ap (λ (r : LiveRow). r.name) e, ap (λ (r : LiveRow). r.values) e))
    (decided_both (texts a.name b.name) (lists values a.values b.values))

pub alike_decided : (a b : Outcome) → Decided (EndAlike a b)
alike_decided (Fault number statement) b = inr (λ h. absurd (let e = h.first in cc))
alike_decided (Ended output live) (Fault number statement) = inr (λ h. absurd (let e = h.second in cc))
alike_decided (Ended output live) (Ended lines held) =
    decided_same {P = (output ≡ lines) × (live ≡ held)}
    (λ h. record { output = lines; live = held; first = ap₂ Ended h.0 h.1; second = refl })
    (λ h. (let e = sym h.first in let f = h.second in let g : Ended output live ≡ Ended lines held = h.first ∙ sym h.second in cc, let g : Ended output live ≡ Ended lines held = h.first ∙ sym h.second in cc))
    (decided_both (lists texts output lines) (lists rows live held))
