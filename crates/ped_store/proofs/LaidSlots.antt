-- Slots one behind the other hold different cells at different places.
use Rattle.std.proofs.Common.{◌≡◌, ℕ, ◌+◌, ◌<◌, ◌≤◌, List, [], ◌∷◌, Bool, true, false, Some, if◌then◌else◌, refl, sym, ◌∙◌, arith}
use Rattle.ped_base.specs.Lists.{is_same_text}
use Rattle.ped_base.proofs.NameEquality.{same_is}
use Rattle.ped_store.specs.declared.slots.Slot.{Slot}
use Rattle.ped_store.specs.Slots.{slot_count, slot_of, IsLaid}

-- slots end no earlier than they begin
pub laid_up : (es : List (List ℕ × Slot)) (at end : ℕ) → IsLaid at es end → at ≤ end
laid_up [] at end h = omega (arith, h)
laid_up (e ∷ es) at end h = let p = laid_up es (at + slot_count e.1) end h.1 in omega (arith, p)

-- the slot of a name stands between the ends
pub laid_within : (es : List (List ℕ × Slot)) (at end : ℕ) (x : List ℕ) (slot : Slot) → IsLaid at es end → Some slot ≡ slot_of es x → (at ≤ slot.start) × (slot.start + slot_count slot ≤ end)
laid_within [] at end x slot h k = absurd cc
laid_within (e ∷ es) at end x slot h k = go (is_same_text x e.0) (laid_within es (at + slot_count e.1) end x slot h.1) k
  where
    go : (b : Bool) → (Some slot ≡ slot_of es x → (at + slot_count e.1 ≤ slot.start) × (slot.start + slot_count slot ≤ end)) → Some slot ≡ (if b then Some e.1 else slot_of es x) → (at ≤ slot.start) × (slot.start + slot_count slot ≤ end)
    go true rest k =
        let q : slot ≡ e.1 = cc in
        let p = laid_up es (at + slot_count e.1) end h.1 in
        rw q (omega (arith, h.0), omega (arith, h.0, p))
    go false rest k =
        let p = rest k in
        (omega (arith, p.0), p.1)

-- a place belongs to the slot of one name
pub laid_apart : (es : List (List ℕ × Slot)) (at end : ℕ) (x y : List ℕ) (s t : Slot) (i : ℕ) → IsLaid at es end → Some s ≡ slot_of es x → Some t ≡ slot_of es y
    → s.start ≤ i → i < s.start + slot_count s → t.start ≤ i → i < t.start + slot_count t → x ≡ y
laid_apart [] at end x y s t i h k m a b c d = absurd cc
laid_apart (e ∷ es) at end x y s t i h k m a b c d = go (is_same_text x e.0) (is_same_text y e.0) (λ k m. laid_apart es (at + slot_count e.1) end x y s t i h.1 k m a b c d) refl refl k m
  where
    go : (p q : Bool) → (Some s ≡ slot_of es x → Some t ≡ slot_of es y → x ≡ y) → is_same_text x e.0 ≡ p → is_same_text y e.0 ≡ q → Some s ≡ (if p then Some e.1 else slot_of es x) → Some t ≡ (if q then Some e.1 else slot_of es y) → x ≡ y
    go true true rest u v k m = same_is x e.0 u ∙ sym (same_is y e.0 v)
    go true false rest u v k m =
        let f : s ≡ e.1 = cc in
        let w = (laid_within es (at + slot_count e.1) end y t h.1 m).0 in
        let g : i < at + slot_count e.1 = rw (f, h.0) at b in
        absurd (omega (arith, w, c, g))
    go false true rest u v k m =
        let f : t ≡ e.1 = cc in
        let w = (laid_within es (at + slot_count e.1) end x s h.1 k).0 in
        let g : i < at + slot_count e.1 = rw (f, h.0) at d in
        absurd (omega (arith, w, a, g))
    go false false rest u v k m = rest k m
