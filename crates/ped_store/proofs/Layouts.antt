-- Slots that are laid one behind the other.
use Rattle.std.proofs.Common.{◌≡◌, ℕ, zero, suc, ◌+◌, ◌*◌, ◌<◌, ◌≤◌, min, List, [], ◌∷◌, ◌++◌, Bool, true, false, Option, Some, None, if◌then◌else◌, refl, sym, ap, ◌∙◌, leb, arith}
use Rattle.std.proofs.lemmas.Bool.{leb-true, leb-false}
use Rattle.std.specs.Prelude.{is_some}
use Rattle.std.specs.Option.{option_map, option_or}
use Rattle.std.proofs.lemmas.Nat.{mul-le}
use Rattle.ped_base.specs.Dimensions.{Dimensions}
use Rattle.ped_base.specs.Lists.{is_same_text}
use Rattle.ped_store.specs.declared.shapes.Shape.{Shape}
use Rattle.ped_store.specs.declared.slots.Slot.{Slot}
use Rattle.ped_store.specs.Slots.{slot_count, slot_of, slot_bounds, first_bounds, IsLaid}
use Rattle.ped_base.proofs.NameEquality.{same_is, same_flip}

-- a slot behind the others
pub laid_more : (es : List (List ℕ × Slot)) (at end : ℕ) (x : List ℕ) (slot : Slot) → IsLaid at es end → slot.start ≡ end → IsLaid at (es ++ (x, slot) ∷ []) (end + slot_count slot)
laid_more [] at end x slot h e = (e ∙ sym h, ap (λ n. n + slot_count slot) h)
laid_more (e ∷ es) at end x slot h k = (h.0, laid_more es (at + slot_count e.1) end x slot h.1 k)

large_left : (m k n : ℕ) → 0 < k → m ≤ n → min (k * n) m ≡ m
large_left m k n p h = let q : 1 * n ≤ k * n = mul-le 1 n k n p (omega arith) in omega (arith, h, q)

large_right : (m k n : ℕ) → 0 < n → m ≤ k → min (k * n) m ≡ m
large_right m k n p h = let q : k * 1 ≤ k * n = mul-le k 1 k n (omega arith) p in omega (arith, h, q)

small_large : (m a b : ℕ) → m < b → min (a * m) m ≡ min (a * b) m
small_large m zero b h = omega arith
small_large m (suc a) b h = large_left m (suc a) m (omega arith) (omega arith) ∙ sym (large_left m (suc a) b (omega arith) (omega (arith, h)))

large_small : (m a b : ℕ) → m < a → min (m * b) m ≡ min (a * b) m
large_small m a zero h = omega arith
large_small m a (suc b) h = large_right m m (suc b) (omega arith) (omega arith) ∙ sym (large_right m a (suc b) (omega arith) (omega (arith, h)))

both_large : (m a b : ℕ) → m < a → m < b → min (m * m) m ≡ min (a * b) m
both_large zero a b h k = omega arith
both_large (suc m) a b h k = large_right (suc m) (suc m) (suc m) (omega arith) (omega arith) ∙ sym (large_right (suc m) a b (omega (arith, k)) (omega (arith, h)))

cut_off : (n m : ℕ) → m < n → min n m ≡ m
cut_off n m h = omega (arith, h)

uncut : (n m : ℕ) → n ≤ m → min n m ≡ n
uncut n m h = omega (arith, h)

or_nothing : {X : Type 0} (o : Option X) → option_or o None ≡ o
or_nothing None = refl
or_nothing (Some x) = refl

pub nothing_there : {X : Type 0} (o : Option X) → is_some o ≡ false → o ≡ None
nothing_there None h = refl
nothing_there (Some x) h = absurd cc

-- a new name has its slot, and the others have theirs
pub added_bounds : (before after : List (List ℕ × Slot)) (name : List ℕ) (slot : Slot) → is_some (slot_of before name) ≡ false → ((x : List ℕ) → slot_of after x ≡ (if is_same_text name x then Some slot else slot_of before x))
    → (x : List ℕ) → slot_bounds after x ≡ option_or (slot_bounds before x) (if is_same_text x name then Some slot.bounds else None)
added_bounds before after name slot new each x = ap (option_map (λ (s : Slot). s.bounds)) (each x) ∙ go (is_same_text name x) refl ∙ ap (λ b. option_or (slot_bounds before x) (if b then Some slot.bounds else None)) (same_flip name x)
  where
    go : (b : Bool) → is_same_text name x ≡ b → option_map (λ (s : Slot). s.bounds) (if b then Some slot else slot_of before x) ≡ option_or (slot_bounds before x) (if b then Some slot.bounds else None)
    go true h =
        let none : slot_of before x ≡ None = ap (slot_of before) (sym (same_is name x h)) ∙ nothing_there (slot_of before name) new in
        ap (λ (o : Option Slot). option_or (option_map (λ (s : Slot). s.bounds) o) (Some slot.bounds)) (sym none)
    go false h = sym (or_nothing (slot_bounds before x))

-- a name that has a slot keeps it
pub known_bounds : (slots : List (List ℕ × Slot)) (name : List ℕ) (bounds : Dimensions) → is_some (slot_of slots name) ≡ true → (x : List ℕ) → slot_bounds slots x ≡ option_or (slot_bounds slots x) (if is_same_text x name then Some bounds else None)
known_bounds slots name bounds there x = go (is_same_text x name) refl
  where
    stays : (o : Option Slot) → is_some o ≡ true → option_map (λ (s : Slot). s.bounds) o ≡ option_or (option_map (λ (s : Slot). s.bounds) o) (Some bounds)
    stays None h = absurd cc
    stays (Some s) h = refl

    go : (b : Bool) → is_same_text x name ≡ b → slot_bounds slots x ≡ option_or (slot_bounds slots x) (if b then Some bounds else None)
    go true h = stays (slot_of slots x) (ap (λ (y : List ℕ). is_some (slot_of slots y)) (same_is x name h) ∙ there)
    go false h = sym (or_nothing (slot_bounds slots x))

-- the first shape of a name, of those before a place and those from there on
pub next_bounds : (o : Option Dimensions) (shape : Shape) (more : List Shape) (x : List ℕ) → option_or (option_or o (if is_same_text x shape.name then Some shape.bounds else None)) (first_bounds more x) ≡ option_or o (first_bounds (shape ∷ more) x)
next_bounds (Some bounds) shape more x = refl
next_bounds None shape more x = go (is_same_text x shape.name)
  where
    go : (b : Bool) → option_or (if b then Some shape.bounds else None) (first_bounds more x) ≡ (if b then Some shape.bounds else first_bounds more x)
    go true = refl
    go false = refl

-- a product of numbers that are cut off at a greatest one, cut off there
pub product_most : (m a b : ℕ) → min (min a m * min b m) m ≡ min (a * b) m
product_most m a b = go (leb a m) (leb b m) refl refl
  where
    go : (p q : Bool) → leb a m ≡ p → leb b m ≡ q → min (min a m * min b m) m ≡ min (a * b) m
    go true true h k = rw (uncut a m (leb-true a m h), uncut b m (leb-true b m k)) refl
    go true false h k = rw (uncut a m (leb-true a m h), cut_off b m (leb-false b m k)) (small_large m a b (leb-false b m k))
    go false true h k = rw (cut_off a m (leb-false a m h), uncut b m (leb-true b m k)) (large_small m a b (leb-false a m h))
    go false false h k = rw (cut_off a m (leb-false a m h), cut_off b m (leb-false b m k)) (both_large m a b (leb-false a m h) (leb-false b m k))
