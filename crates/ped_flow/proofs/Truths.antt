-- Truth values that say whether something is so.
use Rattle.std.proofs.Common.{◌≡◌, Bool, true, false, not, ◌&&◌, ◌||◌, ◌⊎◌, ◌↔◌, IsTrue, refl, sym, inl, inr}

-- false isn't true
pub untrue : {A : Type 0} → false ≡ true → A
untrue h = absurd cc

pub and_iff : {A B : Type 0} (a b : Bool) → IsTrue a ↔ A → IsTrue b ↔ B → IsTrue (a && b) ↔ (A × B)
and_iff true b h k = (λ t. (h.0 refl, k.0 t), λ s. k.1 s.1)
and_iff false b h k = (λ t. untrue t, λ s. h.1 s.0)

right_of : {A B : Type 0} (b : Bool) → IsTrue false ↔ A → IsTrue b ↔ B → A ⊎ B → IsTrue b
right_of b h k (inl s) = untrue (h.1 s)
right_of b h k (inr s) = k.1 s

pub or_iff : {A B : Type 0} (a b : Bool) → IsTrue a ↔ A → IsTrue b ↔ B → IsTrue (a || b) ↔ (A ⊎ B)
or_iff true b h k = (λ t. inl (h.0 refl), λ s. refl)
or_iff false b h k = (λ t. inr (k.0 t), right_of b h k)

-- what is so exactly where something else is
pub iff_map : {A B C : Type 0} → A ↔ B → (B → C) → (C → B) → A ↔ C
iff_map h to from = (λ a. to (h.0 a), λ c. h.1 (from c))

-- one of two holds where `or` does
pub or_split : (a b : Bool) → (a || b) ≡ true → (a ≡ true) ⊎ (b ≡ true)
or_split true b h = inl refl
or_split false b h = inr h

pub or_none : (a b : Bool) → (a || b) ≡ false → (a ≡ false) × (b ≡ false)
or_none true b h = untrue (sym h)
or_none false b h = (refl, h)

pub and_split : (a b : Bool) → (a && b) ≡ true → (a ≡ true) × (b ≡ true)
and_split true b h = (refl, h)
and_split false b h = untrue h

pub not_true : (a : Bool) → not a ≡ true → a ≡ false
not_true true h = untrue h
not_true false h = refl
