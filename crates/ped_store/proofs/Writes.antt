-- A write at the place of a cell is a write of that cell alone.
use Rattle.std.proofs.Common.{◌≡◌, ◌≢◌, ℕ, ◌+◌, ◌<◌, ℤ, List, [], ◌∷◌, length, set, get_or, Bool, true, false, ◌&&◌, Option, Some, None, Result, Ok, Err, if◌then◌else◌, refl, sym, ap, subst, ◌∙◌, arith, eqb, eqb-true, true≢false}
use Rattle.std.specs.Prelude.{option_and_then, slice_get}
use Rattle.std.specs.Option.{option_map, option_flatten, unwrap_or}
use Rattle.std.specs.Ordering.{int_eq}
use Rattle.std.specs.Cmp.Lexicographic.{pointwise}
use Rattle.std.proofs.lemmas.Bool.{and_parts}
use Rattle.std.proofs.lemmas.Bool.Decides.{Decides-int_eq}
use Rattle.std.proofs.lemmas.List.{get_or-set_other, get_or-set_same}
use Rattle.std.proofs.lemmas.Option.{unwrap_or-slice_get}
use mathlib.Core.Path.{fun_ext}
use Rattle.ped_base.specs.Dimensions.{Dimensions}
use Rattle.ped_base.specs.Lists.{is_same_text}
use Rattle.ped_store.specs.declared.slots.Slot.{Slot}
use Rattle.ped_store.specs.Cells.{Cell, Scalar, Element, Private, In, Out, same_cell}
use Rattle.ped_store.specs.Stores.{Number, put, is_storable}
use Rattle.ped_store.specs.Storage.{are_within, is_within}
use Rattle.ped_store.specs.Slots.{place, count, scalar_in, element_in, place_in, slot_of, index_of, held_at, content_of, IsLaid}
use Rattle.ped_store.specs.Memories.{Memory, with_content, with_number}
use Rattle.ped_store.specs.Keeping.{Kept, memory_of, cells_of, bounds_in, with_held}
use Rattle.ped_store.proofs.Places.{place_in_below, place_same}
use Rattle.ped_base.proofs.NameEquality.{same_is, same_itself}
use Rattle.ped_store.proofs.LaidSlots.{laid_within, laid_apart}

same_subscripts : (js ks : List ℤ) → pointwise int_eq js ks ≡ true → js ≡ ks
same_subscripts [] [] h = refl
same_subscripts [] (k ∷ ks) h = absurd cc
same_subscripts (j ∷ js) [] h = absurd cc
same_subscripts (j ∷ js) (k ∷ ks) h =
    let p = and_parts (int_eq j k) (pointwise int_eq js ks) h in
    let e = (Decides-int_eq j k).0 p.0 in
    let r = same_subscripts js ks p.1 in
    λ i. e i ∷ r i

own_subscripts : (js : List ℤ) → pointwise int_eq js js ≡ true
own_subscripts [] = refl
own_subscripts (j ∷ js) = ap (λ b. b && pointwise int_eq js js) ((Decides-int_eq j j).1 refl) ∙ own_subscripts js

-- a scalar's place is its slot
pub scalar_at : (o : Option Slot) (i : ℕ) → Some i ≡ option_and_then scalar_in o → (slot : Slot) × (Some slot ≡ o) × (i ≡ slot.start) × (length slot.bounds.lower ≡ 0)
scalar_at None i h = absurd cc
scalar_at (Some slot) i h = go (eqb (length slot.bounds.lower) 0) refl h
  where
    go : (b : Bool) → eqb (length slot.bounds.lower) 0 ≡ b → Some i ≡ (if b then Some slot.start else None) → (s : Slot) × (Some s ≡ Some slot) × (i ≡ s.start) × (length s.bounds.lower ≡ 0)
    go true p h = (slot, refl, cc, eqb-true _ _ p)
    go false p h = absurd cc

-- an element's place lies in its array's slot
pub element_at : (o : Option Slot) (js : List ℤ) (i : ℕ) → Some i ≡ option_and_then (element_in js) o → (slot : Slot) × (Some slot ≡ o) × (r : ℕ) × (Some r ≡ place_in slot.bounds js) × (i ≡ slot.start + r)
element_at None js i h = absurd cc
element_at (Some slot) js i h = go (place_in slot.bounds js) refl h
  where
    go : (p : Option ℕ) → p ≡ place_in slot.bounds js → Some i ≡ option_map (λ r. slot.start + r) p → (s : Slot) × (Some s ≡ Some slot) × (r : ℕ) × (Some r ≡ place_in s.bounds js) × (i ≡ s.start + r)
    go None q h = absurd cc
    go (Some r) q h = (slot, refl, r, q, cc)

pub count_one : (ls us : List ℤ) → length ls ≡ 0 → count ls us ≡ 1
count_one [] us h = refl
count_one (l ∷ ls) us h = absurd (omega (arith, h))

no_dimension : (ls us js : List ℤ) (r : ℕ) → length ls ≡ 0 → Some r ≡ place_in (record { lower = ls; upper = us }) js → ⊥
no_dimension ls us [] r h k = absurd cc
no_dimension (l ∷ ls) us (j ∷ js) r h k = absurd (omega (arith, h))
no_dimension [] [] (j ∷ js) r h k = absurd cc
no_dimension [] (u ∷ us) (j ∷ js) r h k = absurd cc

by_place : (bounds : Dimensions) (js : List ℤ) (r : ℕ) → Some r ≡ place_in bounds js → (are_within bounds.lower bounds.upper js ≡ true) × (r ≡ place bounds.lower bounds.upper js)
by_place bounds [] r h = absurd cc
by_place bounds (j ∷ js) r h = go (are_within bounds.lower bounds.upper (j ∷ js)) refl h
  where
    go : (b : Bool) → are_within bounds.lower bounds.upper (j ∷ js) ≡ b → Some r ≡ (if b then Some (place bounds.lower bounds.upper (j ∷ js)) else None) → (are_within bounds.lower bounds.upper (j ∷ js) ≡ true) × (r ≡ place bounds.lower bounds.upper (j ∷ js))
    go true p h = (p, cc)
    go false p h = absurd cc

one_of : (a b : Slot) (o p : Option Slot) → Some a ≡ o → Some b ≡ p → o ≡ p → a ≡ b
one_of a b o p h k e = let q : Some a ≡ Some b = h ∙ e ∙ sym k in cc

-- the place of a scalar or an element lies below the end
pub index_below : (es : List (List ℕ × Slot)) (end : ℕ) (c : Cell) (i : ℕ) → IsLaid 0 es end → Some i ≡ index_of es c → i < end
index_below es end (Scalar x) i laid h =
    let s = scalar_at (slot_of es x) i h in
    let w = laid_within es 0 end x s.0 laid s.1 in
    let n = count_one s.0.bounds.lower s.0.bounds.upper s.3 in
    omega (arith, w.1, n, s.2)
index_below es end (Element x js) i laid h =
    let s = element_at (slot_of es x) js i h in
    let w = laid_within es 0 end x s.0 laid s.1 in
    let n = place_in_below s.0.bounds js s.2 s.3 in
    omega (arith, w.1, n, s.4)
index_below es end (Private x iterations) i laid h = absurd cc
index_below es end In i laid h = absurd cc
index_below es end Out i laid h = absurd cc

-- no place is that of a scalar and of an element
not_both : (es : List (List ℕ × Slot)) (end : ℕ) (x y : List ℕ) (ks : List ℤ) (i : ℕ) → IsLaid 0 es end → Some i ≡ index_of es (Scalar x) → Some i ≡ index_of es (Element y ks) → ⊥
not_both es end x y ks i laid h k =
    let s = scalar_at (slot_of es x) i h in
    let t = element_at (slot_of es y) ks i k in
    let n = count_one s.0.bounds.lower s.0.bounds.upper s.3 in
    let m = place_in_below t.0.bounds ks t.2 t.3 in
    let e = laid_apart es 0 end x y s.0 t.0 i laid s.1 t.1 (omega (arith, s.2)) (omega (arith, s.2, n)) (omega (arith, t.4)) (omega (arith, t.4, m)) in
    let q = one_of s.0 t.0 (slot_of es x) (slot_of es y) s.1 t.1 (ap (slot_of es) e) in
    no_dimension t.0.bounds.lower t.0.bounds.upper ks t.2 (ap (λ (z : Slot). length z.bounds.lower) (sym q) ∙ s.3) t.3

-- one place, one cell
pub one_cell : (es : List (List ℕ × Slot)) (end : ℕ) (c d : Cell) (i : ℕ) → IsLaid 0 es end → Some i ≡ index_of es c → Some i ≡ index_of es d → c ≡ d
one_cell es end (Scalar x) (Scalar y) i laid h k =
    let s = scalar_at (slot_of es x) i h in
    let t = scalar_at (slot_of es y) i k in
    let n = count_one s.0.bounds.lower s.0.bounds.upper s.3 in
    let m = count_one t.0.bounds.lower t.0.bounds.upper t.3 in
    ap Scalar (laid_apart es 0 end x y s.0 t.0 i laid s.1 t.1 (omega (arith, s.2)) (omega (arith, s.2, n)) (omega (arith, t.2)) (omega (arith, t.2, m)))
one_cell es end (Scalar x) (Element y ks) i laid h k = absurd (not_both es end x y ks i laid h k)
one_cell es end (Element x js) (Scalar y) i laid h k = absurd (not_both es end y x js i laid k h)
one_cell es end (Element x js) (Element y ks) i laid h k =
    let s = element_at (slot_of es x) js i h in
    let t = element_at (slot_of es y) ks i k in
    let n = place_in_below s.0.bounds js s.2 s.3 in
    let m = place_in_below t.0.bounds ks t.2 t.3 in
    let e = laid_apart es 0 end x y s.0 t.0 i laid s.1 t.1 (omega (arith, s.4)) (omega (arith, s.4, n)) (omega (arith, t.4)) (omega (arith, t.4, m)) in
    let q = one_of s.0 t.0 (slot_of es x) (slot_of es y) s.1 t.1 (ap (slot_of es) e) in
    let start : s.0.start ≡ t.0.start = ap (λ (z : Slot). z.start) q in
    let r : s.2 ≡ t.2 = omega (arith, s.4, t.4, start) in
    let a = by_place s.0.bounds js s.2 s.3 in
    let b = by_place s.0.bounds ks t.2 (t.3 ∙ ap (λ (z : Slot). place_in z.bounds ks) (sym q)) in
    let f = place_same s.0.bounds.lower s.0.bounds.upper js ks a.0 b.0 (sym a.1 ∙ r ∙ b.1) in
    λ z. Element (e z) (f z)
one_cell es end (Private x iterations) d i laid h k = absurd cc
one_cell es end In d i laid h k = absurd cc
one_cell es end Out d i laid h k = absurd cc
one_cell es end (Scalar x) (Private y iterations) i laid h k = absurd cc
one_cell es end (Scalar x) In i laid h k = absurd cc
one_cell es end (Scalar x) Out i laid h k = absurd cc
one_cell es end (Element x js) (Private y iterations) i laid h k = absurd cc
one_cell es end (Element x js) In i laid h k = absurd cc
one_cell es end (Element x js) Out i laid h k = absurd cc

same_cell_is : (es : List (List ℕ × Slot)) (c d : Cell) (i : ℕ) → Some i ≡ index_of es c → same_cell c d ≡ true → c ≡ d
same_cell_is es (Scalar x) (Scalar y) i h k = ap Scalar (same_is x y k)
same_cell_is es (Scalar x) (Element y ks) i h k = absurd cc
same_cell_is es (Scalar x) (Private y iterations) i h k = absurd cc
same_cell_is es (Scalar x) In i h k = absurd cc
same_cell_is es (Scalar x) Out i h k = absurd cc
same_cell_is es (Element x js) (Element y ks) i h k =
    let p = and_parts (is_same_text x y) (pointwise int_eq js ks) k in
    let e = same_is x y p.0 in
    let f = same_subscripts js ks p.1 in
    λ z. Element (e z) (f z)
same_cell_is es (Element x js) (Scalar y) i h k = absurd cc
same_cell_is es (Element x js) (Private y iterations) i h k = absurd cc
same_cell_is es (Element x js) In i h k = absurd cc
same_cell_is es (Element x js) Out i h k = absurd cc
same_cell_is es (Private x iterations) d i h k = absurd cc
same_cell_is es In d i h k = absurd cc
same_cell_is es Out d i h k = absurd cc

own_cell : (es : List (List ℕ × Slot)) (c : Cell) (i : ℕ) → Some i ≡ index_of es c → same_cell c c ≡ true
own_cell es (Scalar x) i h = same_itself x
own_cell es (Element x js) i h = ap (λ b. b && pointwise int_eq js js) (same_itself x) ∙ own_subscripts js
own_cell es (Private x iterations) i h = absurd cc
own_cell es In i h = absurd cc
own_cell es Out i h = absurd cc

flat : (o : Option (Option ℤ)) → option_flatten o ≡ unwrap_or o None
flat None = refl
flat (Some v) = refl

pub held_is : (held : List (Option ℤ)) (i : ℕ) → held_at held (Some i) ≡ content_of (get_or held i None)
held_is held i = ap content_of (flat (slice_get held i) ∙ unwrap_or-slice_get held i None)

-- what is held behind a write, at the place of each cell
pub written : (es : List (List ℕ × Slot)) (held : List (Option ℤ)) (c d : Cell) (i : ℕ) (v : Option ℤ) → IsLaid 0 es (length held) → Some i ≡ index_of es c
    → held_at (set held i v) (index_of es d) ≡ (if same_cell c d then content_of v else held_at held (index_of es d))
written es held c d i v laid h = go (same_cell c d) refl
  where
    below : i < length held
    below = index_below es (length held) c i laid h

    here : held_at (set held i v) (Some i) ≡ content_of v
    here = held_is (set held i v) i ∙ ap content_of (get_or-set_same held i v None below)

    apart : (o : Option ℕ) → o ≡ index_of es d → same_cell c d ≡ false → held_at (set held i v) o ≡ held_at held o
    apart None e k = refl
    apart (Some n) e k = test (eqb n i) refl
      where
        other : n ≢ i
        other p =
            let q : Some i ≡ index_of es d = ap Some (sym p) ∙ e in
            let f = one_cell es (length held) c d i laid h q in
            true≢false (sym (own_cell es c i h) ∙ ap (same_cell c) f ∙ k)

        test : (b : Bool) → eqb n i ≡ b → held_at (set held i v) (Some n) ≡ held_at held (Some n)
        test b p = held_is (set held i v) n ∙ ap content_of (get_or-set_other held i n v None other) ∙ sym (held_is held n)

    go : (b : Bool) → same_cell c d ≡ b → held_at (set held i v) (index_of es d) ≡ (if b then content_of v else held_at held (index_of es d))
    go true k =
        let f = same_cell_is es c d i h k in
        ap (held_at (set held i v)) (sym (h ∙ ap (index_of es) f)) ∙ here
    go false k = apart (index_of es d) refl k

-- a write at the place of a cell is a write of the cell
pub put_is : (m : Kept) (c : Cell) (i : ℕ) (v : Option ℤ) → IsLaid 0 m.slots (length m.held) → Some i ≡ index_of m.slots c → memory_of (with_held i v m) ≡ with_content c (content_of v) (memory_of m)
put_is m c i v laid h = λ z. record (memory_of m) { cells = fun_ext each z }
  where
    unlike : (c : Cell) → Some i ≡ index_of m.slots c → (d : Cell) → index_of m.slots d ≡ None → cells_of (with_held i v m) d ≡ cells_of m d → cells_of (with_held i v m) d ≡ put c (content_of v) (cells_of m) d
    unlike c h d e f = go (same_cell c d) refl
      where
        go : (b : Bool) → same_cell c d ≡ b → cells_of (with_held i v m) d ≡ (if b then content_of v else cells_of m d)
        go true k = let q : Some i ≡ None = h ∙ ap (index_of m.slots) (same_cell_is m.slots c d i h k) ∙ e in absurd cc
        go false k = f

    each : (d : Cell) → cells_of (with_held i v m) d ≡ put c (content_of v) (cells_of m) d
    each (Scalar x) = written m.slots m.held c (Scalar x) i v laid h
    each (Element x js) = written m.slots m.held c (Element x js) i v laid h
    each (Private x iterations) = unlike c h (Private x iterations) refl refl
    each In = unlike c h In refl refl
    each Out = unlike c h Out refl refl

-- an element with a place has its subscripts within the bounds
pub within_some : (es : List (List ℕ × Slot)) (x : List ℕ) (js : List ℤ) (i : ℕ) → Some i ≡ index_of es (Element x js) → is_within (bounds_in (slot_of es x)) js ≡ true
within_some es x js i h =
    let s = element_at (slot_of es x) js i h in
    ap (λ (o : Option Slot). is_within (bounds_in o) js) (sym s.1) ∙ (by_place s.0.bounds js s.2 s.3).0

-- what is stored where the number can be held
pub stored_number : (c : Cell) (v : ℤ) (m : Memory) → is_storable v ≡ true → with_number c v m ≡ Ok (with_content c (Number v) m)
stored_number c v m h = rw h refl

-- and where it can't
pub refused_number : (c : Cell) (v : ℤ) (m : Memory) → is_storable v ≡ false → with_number c v m ≡ Err 4
refused_number c v m h = rw h refl

-- a test of the bounds that has gone well
pub passed : (b : Bool) (r : Result Memory ℕ) → b ≡ true → (if b then r else Err 2) ≡ r
passed true r h = refl
passed false r h = absurd cc

-- what is laid out in what is kept
pub laid_in : (s m : Kept) → s ≡ m → IsLaid 0 s.slots (length s.held) → IsLaid 0 m.slots (length m.held)
laid_in s m e h = subst (λ (k : Kept). IsLaid 0 k.slots (length k.held)) e h
