-- The elements of an array stand one behind the other in storage order.
use Rattle.std.proofs.Common.{◌≡◌, ℕ, zero, suc, ◌+◌, ◌*◌, ◌<◌, ◌≤◌, ℤ, pos, ◌+ℤ◌, List, [], ◌∷◌, ◌++◌, map, length, take, drop, get_or, Option, Some, None, refl, sym, ap, ◌∙◌, arith, drop-cons}
use Rattle.std.specs.Prelude.{option_and_then}
use Rattle.std.specs.List.{flat_map}
use Rattle.std.specs.Option.{option_map}
use Rattle.std.proofs.lemmas.Int.{ints}
use Rattle.std.proofs.lemmas.List.{map-append}
use Rattle.std.proofs.lemmas.Simd.{map-map}
use Rattle.ped_store.specs.declared.slots.Slot.{Slot}
use Rattle.ped_store.specs.Stores.{number_in}
use Rattle.ped_store.specs.Storage.{extent, numbers_from, all_within}
use Rattle.ped_store.specs.Slots.{count, slot_count, scalar_in, element_in, place_in, place_within, offset_within, slot_of, held_at, content_of}
use Rattle.ped_store.specs.Variables.{values_of}
use Rattle.ped_store.specs.Keeping.{Kept, cells_of, bounds_in}
use Rattle.ped_store.proofs.Places.{both}
use Rattle.ped_store.proofs.Writes.{held_is}

-- so many places from one on
abbrev places_from : ℕ → ℕ → List ℕ
places_from a zero = []
places_from a (suc n) = a ∷ places_from (suc a) n

places-append : (a m n : ℕ) → places_from a (m + n) ≡ places_from a m ++ places_from (a + m) n
places-append a zero n =
    let e : 0 + n ≡ n = omega arith in
    let f : a ≡ a + 0 = omega arith in
    λ i. places_from (f i) (e i)
places-append a (suc m) n =
    let e : suc m + n ≡ suc (m + n) = omega arith in
    let f : suc a + m ≡ a + suc m = omega arith in
    ap (places_from a) e ∙ ap (λ ps. a ∷ ps) (places-append (suc a) m n ∙ ap (λ b. places_from (suc a) m ++ places_from b n) f)

offset_in : (l u : ℤ) (k : ℕ) → k < extent l u → Some k ≡ offset_within l u (l +ℤ pos k)
offset_in l u k h = grind (arith, ints, h)

-- the elements that differ in their first subscript alone
row : (l u : ℤ) (ls us js : List ℤ) (a k n : ℕ) → Some a ≡ place_within ls us js → k + n ≡ extent l u
    → map (place_within (l ∷ ls) (u ∷ us)) (map (λ j. j ∷ js) (numbers_from (l +ℤ pos k) n)) ≡ map Some (places_from (a * extent l u + k) n)
row l u ls us js a k zero h e = refl
row l u ls us js a k (suc n) h e =
    let first : place_within (l ∷ ls) (u ∷ us) ((l +ℤ pos k) ∷ js) ≡ Some (a * extent l u + k) = sym (both l u (l +ℤ pos k) ls us js k a (offset_in l u k (omega (arith, e))) h) in
    let next : (l +ℤ pos k) +ℤ pos 1 ≡ l +ℤ pos (k + 1) = omega (arith, ints) in
    let place : a * extent l u + (k + 1) ≡ suc (a * extent l u + k) = omega arith in
    let others = row l u ls us js a (k + 1) n h (omega (arith, e)) in
    let more : map (place_within (l ∷ ls) (u ∷ us)) (map (λ j. j ∷ js) (numbers_from ((l +ℤ pos k) +ℤ pos 1) n)) ≡ map Some (places_from (suc (a * extent l u + k)) n) =
    ap (λ (z : ℤ). map (place_within (l ∷ ls) (u ∷ us)) (map (λ j. j ∷ js) (numbers_from z n))) next ∙ others ∙ ap (λ (p : ℕ). map Some (places_from p n)) place in
    λ i. first i ∷ more i

-- where the rest of the subscripts goes on in storage order, the elements do
rows : (l u : ℤ) (ls us : List ℤ) (rests : List (List ℤ)) (a n : ℕ) → map (place_within ls us) rests ≡ map Some (places_from a n)
    → map (place_within (l ∷ ls) (u ∷ us)) (flat_map (λ rest. map (λ j. j ∷ rest) (numbers_from l (extent l u))) rests) ≡ map Some (places_from (a * extent l u) (n * extent l u))
rows l u ls us [] a zero h =
    let e : 0 ≡ 0 * extent l u = omega arith in
    ap (λ (m : ℕ). map Some (places_from (a * extent l u) m)) e
rows l u ls us [] a (suc n) h = absurd cc
rows l u ls us (js ∷ rests) a zero h = absurd cc
rows l u ls us (js ∷ rests) a (suc n) h =
    let w = extent l u in
    let here : Some a ≡ place_within ls us js = cc in
    let there : map (place_within ls us) rests ≡ map Some (places_from (suc a) n) = cc in
    let f : List ℤ → List (List ℤ) = λ rest. map (λ j. j ∷ rest) (numbers_from l w) in
    let start : l ≡ l +ℤ pos 0 = omega (arith, ints) in
    let none : a * w + 0 ≡ a * w = omega arith in
    let end : suc a * w ≡ a * w + w = omega arith in
    let all : suc n * w ≡ w + n * w = omega arith in
    let first : map (place_within (l ∷ ls) (u ∷ us)) (f js) ≡ map Some (places_from (a * w) w) =
    ap (λ (z : ℤ). map (place_within (l ∷ ls) (u ∷ us)) (map (λ j. j ∷ js) (numbers_from z w))) start
    ∙ row l u ls us js a 0 w here (omega arith)
    ∙ ap (λ (p : ℕ). map Some (places_from p w)) none in
    let others = rows l u ls us rests (suc a) n there in
    map-append (place_within (l ∷ ls) (u ∷ us)) (f js) (flat_map f rests)
    ∙ (λ i. first i ++ others i)
    ∙ ap (λ (p : ℕ). map Some (places_from (a * w) w) ++ map Some (places_from p (n * w))) end
    ∙ sym (map-append Some (places_from (a * w) w) (places_from (a * w + w) (n * w)))
    ∙ ap (map Some) (sym (places-append (a * w) w (n * w)))
    ∙ ap (λ (m : ℕ). map Some (places_from (a * w) m)) (sym all)

-- the elements of an array stand at its places from the first on
in_order : (ls us : List ℤ) → length ls ≡ length us → map (place_within ls us) (all_within ls us) ≡ map Some (places_from 0 (count ls us))
in_order [] [] h = refl
in_order [] (u ∷ us) h = absurd (omega (arith, h))
in_order (l ∷ ls) [] h = absurd (omega (arith, h))
in_order (l ∷ ls) (u ∷ us) h =
    let a : 0 * extent l u ≡ 0 = omega arith in
    let n : count ls us * extent l u ≡ extent l u * count ls us = omega arith in
    rows l u ls us (all_within ls us) 0 (count ls us) (in_order ls us (omega (arith, h)))
    ∙ (λ i. map Some (places_from (a i) (n i)))

number_back : (v : Option ℤ) → number_in (content_of v) ≡ v
number_back None = refl
number_back (Some n) = refl

held_number : (held : List (Option ℤ)) (i : ℕ) → number_in (held_at held (Some i)) ≡ get_or held i None
held_number held i = ap number_in (held_is held i) ∙ number_back (get_or held i None)

-- what is held at places from one on
stretch : (held : List (Option ℤ)) (start a n : ℕ) → start + a + n ≤ length held
    → map (λ o. number_in (held_at held (option_map (λ p. start + p) o))) (map Some (places_from a n)) ≡ take n (drop (start + a) held)
stretch held start a zero h = refl
stretch held start a (suc n) h =
    let e : start + suc a ≡ suc (start + a) = omega arith in
    let others : map (λ o. number_in (held_at held (option_map (λ p. start + p) o))) (map Some (places_from (suc a) n)) ≡ take n (drop (suc (start + a)) held) =
    stretch held start (suc a) n (omega (arith, h)) ∙ ap (λ (i : ℕ). take n (drop i held)) e in
    let first = held_number held (start + a) in
    (λ i. first i ∷ others i) ∙ ap (take (suc n)) (sym (drop-cons held (start + a) None (omega (arith, h))))

-- the place of an element, where its array has a dimension
placed : (l : ℤ) (ls us js : List ℤ) → place_in (record { lower = l ∷ ls; upper = us }) js ≡ place_within (l ∷ ls) us js
placed l ls [] [] = refl
placed l ls (u ∷ us) [] = refl
placed l ls us (j ∷ js) = refl

values_in : (m : Kept) (x : List ℕ) (start : ℕ) (ls us : List ℤ) → let slot : Slot = record { bounds = record { lower = ls; upper = us }; start = start } in
    Some slot ≡ slot_of m.slots x → start + slot_count slot ≤ length m.held → length ls ≡ length us → take (slot_count slot) (drop start m.held) ≡ values_of slot.bounds x (cells_of m)
values_in m x start [] us is h e =
    let first : number_in (held_at m.held (Some start)) ≡ get_or m.held start None = held_number m.held start in
    ap (take 1) (drop-cons m.held start None (omega (arith, h)))
    ∙ (λ i. sym first i ∷ [])
    ∙ ap (λ (o : Option Slot). number_in (held_at m.held (option_and_then scalar_in o)) ∷ []) is
values_in m x start (l ∷ ls) us is h e =
    let n = count (l ∷ ls) us in
    let elements = all_within (l ∷ ls) us in
    let read : Option ℕ → Option ℤ = λ o. number_in (held_at m.held (option_map (λ p. start + p) o)) in
    let from : start ≡ start + 0 = omega arith in
    ap (λ (i : ℕ). take n (drop i m.held)) from
    ∙ sym (stretch m.held start 0 n (omega (arith, h)))
    ∙ ap (map read) (sym (in_order (l ∷ ls) us e))
    ∙ map-map read (place_within (l ∷ ls) us) elements
    ∙ (λ i. map (λ js. read (sym (placed l ls us js) i)) elements)
    ∙ ap (λ (o : Option Slot). map (λ js. number_in (held_at m.held (option_and_then (element_in js) o))) elements) is

-- the values of a name that has a slot
pub values_are : (m : Kept) (x : List ℕ) (slot : Slot) → Some slot ≡ slot_of m.slots x → slot.start + slot_count slot ≤ length m.held → length slot.bounds.lower ≡ length slot.bounds.upper
    → take (slot_count slot) (drop slot.start m.held) ≡ values_of (bounds_in (slot_of m.slots x)) x (cells_of m)
values_are m x slot is h e = values_in m x slot.start slot.bounds.lower slot.bounds.upper is h e ∙ ap (λ (o : Option Slot). values_of (bounds_in o) x (cells_of m)) is
