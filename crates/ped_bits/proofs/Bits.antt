-- What operations on words do to the bit of each place.
use Rattle.std.proofs.Common.{◌≡◌, ℕ, zero, suc, ◌+◌, ◌-◌, ◌*◌, ◌/◌, ◌%◌, ◌^◌, ◌<◌, max, min, List, length, replicate, slice_set, slice_index_or, Bool, true, false, ◌&&◌, ◌||◌, not, ◌==◌, bit_and, bit_or, refl, ap, sym, ◌∙◌, inl, inr, arith, w64}
use Rattle.std.specs.Int.{bit_at, bit_not, trailing_zeros}
use Rattle.std.proofs.lemmas.Nat.{div-mul-add, mod-mul-add, mod_below, and_le_l}
use Rattle.std.proofs.lemmas.Nat.Bits.{bit_at_and, bit_at_or, bit_at_not, bit_at-zero, bit_at-lt, bit_at-trailing_zeros, bit_at_set_same, bit_at_set_other, shr_and_one}
use Rattle.std.proofs.lemmas.List.{get_or-replicate, get_or_past, get_or-set_same, get_or-set_other, get_or_default, length-replicate, length-set}
use Rattle.std.proofs.lemmas.Bool.{cases_lt, cases_eq, eqb-true, eq-eqb, or_from, and_left}
use Rattle.ped_bits.specs.Places.{Has, union, without}
use Rattle.ped_bits.specs.Words.{word, is_set, places_of, IsKept}
use Rattle.ped_bits.proofs.Values.{length-values, values_at, values_past, values_none, values_union, values_without, values_set}

or_bits : (x y : ℕ) → x < 2 → y < 2 → (max x y == 1) ≡ (x == 1 || y == 1)
or_bits zero zero p q = refl
or_bits zero (suc zero) p q = refl
or_bits (suc zero) zero p q = refl
or_bits (suc zero) (suc zero) p q = refl
or_bits (suc (suc x)) y p q = absurd (omega arith)
or_bits zero (suc (suc y)) p q = absurd (omega arith)
or_bits (suc zero) (suc (suc y)) p q = absurd (omega arith)

clear_bits : (x y : ℕ) → x < 2 → y < 2 → (min x (1 - y) == 1) ≡ (x == 1 && not (y == 1))
clear_bits zero zero p q = refl
clear_bits zero (suc zero) p q = refl
clear_bits (suc zero) zero p q = refl
clear_bits (suc zero) (suc zero) p q = refl
clear_bits (suc (suc x)) y p q = absurd (omega arith)
clear_bits zero (suc (suc y)) p q = absurd (omega arith)
clear_bits (suc zero) (suc (suc y)) p q = absurd (omega arith)

below : (place : ℕ) → place % 64 < 64
below place = mod_below place 64 (omega arith)

-- in a row that is kept so, a place is in the set where its bit is set
pub has_is : (width : ℕ) (ws : List ℕ) → IsKept width ws → (k : ℕ) → slice_index_or (places_of width ws) k false ≡ is_set ws k
has_is width ws kept k = elim (cases_lt k width) [
  | inl h ↦ values_at (is_set ws) width k false h
  | inr h ↦ values_past (is_set ws) width k false h ∙ sym (kept.rest k h)
]

-- rows of as many places have one width
pub same_width : (m n : ℕ) (xs ys : List ℕ) (a b : List Bool) → places_of m xs ≡ a → places_of n ys ≡ b → length a ≡ length b → m ≡ n
same_width m n xs ys a b p q e = sym (length-values (is_set xs) m) ∙ ap length p ∙ e ∙ sym (ap length q) ∙ length-values (is_set ys) n

-- ---- no bit set
word_none : (n j : ℕ) → word (replicate n 0) j ≡ 0
word_none n j = elim (cases_lt j n) [
  | inl h ↦ get_or-replicate n j 0 0 h
  | inr h ↦ get_or_past (replicate n 0) j 0 (rw (length-replicate {A = ℕ} n 0) h)
]

none_set : (n k : ℕ) → is_set (replicate n 0) k ≡ false
none_set n k = ap (λ (w : ℕ). bit_at w (k % 64) == 1) (word_none n (k / 64)) ∙ ap (λ (b : ℕ). b == 1) (bit_at-zero (k % 64))

pub empty : (width n : ℕ) (ws : List ℕ) → ws ≡ replicate n 0 → places_of width ws ≡ replicate width false
empty width n ws e = values_none (is_set ws) width (λ k. ap (λ (us : List ℕ). is_set us k) e ∙ none_set n k)

-- ---- one bit set
module _ (width place : ℕ) (ws : List ℕ) (w : ℕ) (kept : IsKept width ws) (h : place < width) (e : w ≡ slice_index_or ws (place / 64) w) where
  abbrev pub with_bit : ℕ
  with_bit = bit_or w (1 * 2 ^ (place % 64) % 2 ^ 64)

  abbrev pub after : List ℕ
  after = slice_set ws (place / 64) with_bit

  within : place / 64 < length ws
  within = let l = kept.long in omega arith

  word_is : word ws (place / 64) ≡ w
  word_is = get_or_default ws (place / 64) 0 w within ∙ sym e

  word_after : word after (place / 64) ≡ with_bit
  word_after = get_or-set_same ws (place / 64) with_bit 0 within

  set_same : is_set after place ≡ true
  set_same = ap (λ (b : ℕ). b == 1) (ap (λ (v : ℕ). bit_at v (place % 64)) word_after ∙ bit_at_set_same w64 w (place % 64) (below place))

  set_other : (k : ℕ) → ¬ (k ≡ place) → is_set after k ≡ is_set ws k
  set_other k n = elim (cases_eq (k / 64) (place / 64)) [
    | inl q ↦
        ap (λ (j : ℕ). bit_at (word after j) (k % 64) == 1) q ∙ ap (λ (v : ℕ). bit_at v (k % 64) == 1) word_after
        ∙ ap (λ (b : ℕ). b == 1) (bit_at_set_other w64 w (place % 64) (below place) (k % 64) (λ (r : k % 64 ≡ place % 64). n (omega arith)))
        ∙ sym (ap (λ (j : ℕ). bit_at (word ws j) (k % 64) == 1) q ∙ ap (λ (v : ℕ). bit_at v (k % 64) == 1) word_is)
    | inr d ↦ ap (λ (v : ℕ). bit_at v (k % 64) == 1) (get_or-set_other ws (place / 64) (k / 64) with_bit 0 d)
  ]

  pub kept_set : IsKept width after
  kept_set = record {
    long = length-set ws (place / 64) with_bit ∙ kept.long;
    rest = λ k p. set_other k (λ (z : k ≡ place). omega arith) ∙ kept.rest k p;
  }

  pub set_is : places_of width after ≡ slice_set (places_of width ws) place true
  set_is = values_set (is_set after) (is_set ws) width place set_same set_other

-- ---- the bits of both, and those of one without the other
abbrev pub AreEither : List ℕ → List ℕ → List ℕ → Type 0
AreEither us ws vs = (j : ℕ) → word us j ≡ bit_or (word ws j) (word vs j)

abbrev pub AreCleared : List ℕ → List ℕ → List ℕ → Type 0
AreCleared us ws vs = (j : ℕ) → word us j ≡ bit_and (word ws j) (bit_not w64 (word vs j))

abbrev pub AreWords : List ℕ → Type 0
AreWords ws = (j : ℕ) → word ws j < 2 ^ 64

either_set : (us ws vs : List ℕ) → AreEither us ws vs → (k : ℕ) → is_set us k ≡ (is_set ws k || is_set vs k)
either_set us ws vs e k =
    let a = word ws (k / 64) in
    let b = word vs (k / 64) in
    let i = k % 64 in
    ap (λ (v : ℕ). bit_at v i == 1) (e (k / 64)) ∙ ap (λ (v : ℕ). v == 1) (bit_at_or a b i) ∙ or_bits (bit_at a i) (bit_at b i) (bit_at-lt a i) (bit_at-lt b i)

cleared_set : (us ws vs : List ℕ) → AreCleared us ws vs → AreWords vs → (k : ℕ) → is_set us k ≡ (is_set ws k && not (is_set vs k))
cleared_set us ws vs e f k =
    let a = word ws (k / 64) in
    let b = word vs (k / 64) in
    let i = k % 64 in
    ap (λ (v : ℕ). bit_at v i == 1) (e (k / 64)) ∙ ap (λ (v : ℕ). v == 1) (bit_at_and a (bit_not w64 b) i ∙ ap (λ (v : ℕ). min (bit_at a i) v) (bit_at_not w64 b i (f (k / 64)) (below k)))
    ∙ clear_bits (bit_at a i) (bit_at b i) (bit_at-lt a i) (bit_at-lt b i)

module _ (m n : ℕ) (us ws vs : List ℕ) (a b : List Bool) (kept : IsKept m ws) (other : IsKept n vs) (p : places_of m ws ≡ a) (q : places_of n vs ≡ b) (same : length b ≡ length a) where
  width_is : n ≡ m
  width_is = same_width n m vs ws b a q p same

  other_is : places_of m vs ≡ b
  other_is = ap (λ (k : ℕ). places_of k vs) (sym width_is) ∙ q

  pub lengths : length vs ≡ length ws
  lengths = let x = kept.long in let y = other.long in let w = width_is in y ∙ ap (λ (k : ℕ). k / 64 + 1) w ∙ sym x

  pub kept_either : length us ≡ length ws → AreEither us ws vs → IsKept m us
  kept_either l e = record {
    long = l ∙ kept.long;
    rest = λ k h. either_set us ws vs e k ∙ or_from (is_set ws k) (is_set vs k) (kept.rest k h) (other.rest k (rw width_is h));
  }

  pub either_is : AreEither us ws vs → places_of m us ≡ union a b
  either_is e = values_union (is_set us) (is_set ws) (is_set vs) m (either_set us ws vs e) ∙ (λ i. union (p i) (other_is i))

  pub kept_cleared : length us ≡ length ws → AreCleared us ws vs → AreWords vs → IsKept m us
  kept_cleared l e f = record {
    long = l ∙ kept.long;
    rest = λ k h. cleared_set us ws vs e f k ∙ and_left (is_set ws k) (not (is_set vs k)) (kept.rest k h);
  }

  pub cleared_is : AreCleared us ws vs → AreWords vs → places_of m us ≡ without a b
  cleared_is e f = values_without (is_set us) (is_set ws) (is_set vs) m (cleared_set us ws vs e f) ∙ (λ i. without (p i) (other_is i))

-- ---- tests
-- place i of word j
place_of : (ws : List ℕ) (j i : ℕ) → i < 64 → bit_at (word ws j) i ≡ 1 → is_set ws (j * 64 + i) ≡ true
place_of ws j i h e =
    ap (λ (k : ℕ). bit_at (word ws k) ((j * 64 + i) % 64) == 1) (div-mul-add j 64 i h) ∙ ap (λ (k : ℕ). bit_at (word ws j) k == 1) (mod-mul-add j 64 i h)
    ∙ ap (λ (v : ℕ). v == 1) e

-- a word that isn't 0 has a bit
some_bit : (w : ℕ) → ¬ (w ≡ 0) → w < 2 ^ 64 → (i : ℕ) × (i < 64) × (bit_at w i ≡ 1)
some_bit w n f = let t = bit_at-trailing_zeros w64 w (omega arith) f in (trailing_zeros w64 w, t.0, t.1)

module _ (m n : ℕ) (ws vs : List ℕ) (a b : List Bool) (kept : IsKept m ws) (other : IsKept n vs) (p : places_of m ws ≡ a) (q : places_of n vs ≡ b) where
  here : (k : ℕ) → slice_index_or a k false ≡ is_set ws k
  here k = ap (λ (row : List Bool). slice_index_or row k false) (sym p) ∙ has_is m ws kept k

  there : (k : ℕ) → slice_index_or b k false ≡ is_set vs k
  there k = ap (λ (row : List Bool). slice_index_or row k false) (sym q) ∙ has_is n vs other k

  -- words with a common bit are rows with a common place
  pub meet : AreWords ws → (j : ℕ) × ¬ (bit_and (word ws j) (word vs j) ≡ 0) → (k : ℕ) × Has a k × Has b k
  meet f (j, d) =
      let x = word ws j in
      let y = word vs j in
      let s = some_bit (bit_and x y) d (let l = and_le_l x y in let h = f j in omega arith) in
      let both = sym (bit_at_and x y s.0) ∙ s.2 in
      let lx = bit_at-lt x s.0 in
      let ly = bit_at-lt y s.0 in
      let one : bit_at x s.0 ≡ 1 = omega arith in
      let two : bit_at y s.0 ≡ 1 = omega arith in
      (j * 64 + s.0, here (j * 64 + s.0) ∙ place_of ws j s.0 s.1 one, there (j * 64 + s.0) ∙ place_of vs j s.0 s.1 two)

  pub met : (k : ℕ) × Has a k × Has b k → (j : ℕ) × ¬ (bit_and (word ws j) (word vs j) ≡ 0)
  met (k, h, g) =
      let x = word ws (k / 64) in
      let y = word vs (k / 64) in
      let one : bit_at x (k % 64) ≡ 1 = eqb-true (bit_at x (k % 64)) 1 (sym (here k) ∙ h) in
      let two : bit_at y (k % 64) ≡ 1 = eqb-true (bit_at y (k % 64)) 1 (sym (there k) ∙ g) in (
        k / 64,
        λ (z : bit_and x y ≡ 0).
            let none = sym (bit_at_and x y (k % 64)) ∙ ap (λ (v : ℕ). bit_at v (k % 64)) z ∙ bit_at-zero (k % 64) in
            omega arith,
      )

  -- words within words are rows within rows
  pub inside : AreWords vs → ((j : ℕ) → bit_and (word ws j) (bit_not w64 (word vs j)) ≡ 0) → (k : ℕ) → Has a k → Has b k
  inside f e k h =
      let x = word ws (k / 64) in
      let y = word vs (k / 64) in
      let i = k % 64 in
      let one : bit_at x i ≡ 1 = eqb-true (bit_at x i) 1 (sym (here k) ∙ h) in
      let not_y = bit_at_not w64 y i (f (k / 64)) (below k) in
      let none = sym (bit_at_and x (bit_not w64 y) i) ∙ ap (λ (v : ℕ). bit_at v i) (e (k / 64)) ∙ bit_at-zero i in
      let ly = bit_at-lt y i in
      let two : bit_at y i ≡ 1 = omega arith in
      there k ∙ eq-eqb (bit_at y i) 1 two

  pub within_all : AreWords ws → AreWords vs → ((k : ℕ) → Has a k → Has b k) → (j : ℕ) → bit_and (word ws j) (bit_not w64 (word vs j)) ≡ 0
  within_all f g e j =
      let x = word ws j in
      let y = word vs j in
      elim (cases_eq (bit_and x (bit_not w64 y)) 0) [
        | inl z ↦ z
        | inr d ↦
            let s = some_bit (bit_and x (bit_not w64 y)) d (let l = and_le_l x (bit_not w64 y) in let h = f j in omega arith) in
            let both = sym (bit_at_and x (bit_not w64 y) s.0) ∙ s.2 in
            let not_y = bit_at_not w64 y s.0 (g j) s.1 in
            let lx = bit_at-lt x s.0 in
            let one : bit_at x s.0 ≡ 1 = omega arith in
            let zero_y : bit_at y s.0 ≡ 0 = omega arith in
            let k = j * 64 + s.0 in
            let has = e k (here k ∙ place_of ws j s.0 s.1 one) in
            let two : bit_at (word vs (k / 64)) (k % 64) ≡ 1 = eqb-true (bit_at (word vs (k / 64)) (k % 64)) 1 (sym (there k) ∙ has) in
            let back : bit_at (word vs (k / 64)) (k % 64) ≡ bit_at y s.0 = ap (λ (v : ℕ). bit_at (word vs v) (k % 64)) (div-mul-add j 64 s.0 s.1) ∙ ap (λ (v : ℕ). bit_at y v) (mod-mul-add j 64 s.0 s.1) in
            absurd (omega arith)
      ]

-- what the code reads of a place
pub read_place : (width : ℕ) (ws : List ℕ) (a : List Bool) (w k : ℕ) → IsKept width ws → places_of width ws ≡ a → k < width → w ≡ slice_index_or ws (k / 64) w → (bit_and (w / 2 ^ (k % 64)) 1 == 1) ≡ slice_index_or a k false
read_place width ws a w k kept p h e =
    let l = kept.long in
    let within : k / 64 < length ws = omega arith in
    let is : w ≡ word ws (k / 64) = e ∙ get_or_default ws (k / 64) w 0 within in
    ap (λ (v : ℕ). v == 1) (shr_and_one w (k % 64)) ∙ ap (λ (v : ℕ). bit_at v (k % 64) == 1) is ∙ sym (has_is width ws kept k) ∙ ap (λ (row : List Bool). slice_index_or row k false) p
