-- Lanes: words of a vector, and groups of words that are read and written as vectors.
use Rattle.std.proofs.Common.{◌≡◌, ◌⊎◌, ◌↔◌, ℕ, zero, suc, ◌+◌, ◌-◌, ◌<◌, ◌≤◌, List, [], ◌∷◌, map, length, Bool, true, false, not, IsTrue, nat_eq, bit_and, bit_or, w64, refl, sym, ap, subst, ◌∙◌, inl, inr, arith}
use Rattle.std.specs.Int.{bit_not}
use Rattle.std.specs.Simd.Lanes.{zip2, chunk, put_chunk, fold_l}
use Rattle.std.proofs.lemmas.Bool.{cases_lt}
use Rattle.std.proofs.lemmas.Bool.Decides.{Decides-eqb}
use Rattle.std.proofs.lemmas.Nat.{and_le_l, and_le_r, le_or_l, le_or_r}
use Rattle.std.proofs.lemmas.List.{get_or_past}
use Rattle.std.proofs.lemmas.Simd.{length-zip2, length-chunk, get_or-chunk, get_or-zip2, get_or-put_chunk_below, get_or-put_chunk_at, get_or-put_chunk_above}
use Rattle.ped_bits.specs.Words.{word}

-- an operation on the second operand first
pub zip-map : (f : ℕ → ℕ → ℕ) (g : ℕ → ℕ) (a b : List ℕ) → zip2 f a (map g b) ≡ zip2 (λ x y. f x (g y)) a b
zip-map f g [] b = refl
zip-map f g (x ∷ a) [] = refl
zip-map f g (x ∷ a) (y ∷ b) = ap (λ xs. f x (g y) ∷ xs) (zip-map f g a b)

none_left : (y : ℕ) → bit_and 0 y ≡ 0
none_left y = let l = and_le_l 0 y in omega arith

none_right : (x : ℕ) → bit_and x 0 ≡ 0
none_right x = let l = and_le_r x 0 in omega arith

-- the words of both, where the longer one has nothing to meet behind the shorter
pub word_and : (a b : List ℕ) (j : ℕ) → word (zip2 bit_and a b) j ≡ bit_and (word a j) (word b j)
word_and [] b j = sym (none_left (word b j))
word_and (x ∷ a) [] j = sym (none_right (word (x ∷ a) j))
word_and (x ∷ a) (y ∷ b) zero = refl
word_and (x ∷ a) (y ∷ b) (suc j) = word_and a b j

pub word_and_not : (a b : List ℕ) (j : ℕ) → length a ≡ length b → word (zip2 (λ x y. bit_and x (bit_not w64 y)) a b) j ≡ bit_and (word a j) (bit_not w64 (word b j))
word_and_not [] b j e = sym (none_left (bit_not w64 (word b j)))
word_and_not (x ∷ a) [] j e = absurd (omega arith)
word_and_not (x ∷ a) (y ∷ b) zero e = refl
word_and_not (x ∷ a) (y ∷ b) (suc j) e = word_and_not a b j (omega arith)

-- a vector whose lanes together have no bit
nothing : (start : ℕ) (xs : List ℕ) → fold_l bit_or start xs ≡ 0 → (start ≡ 0) × ((j : ℕ) → word xs j ≡ 0)
nothing start [] e = (e, λ j. refl)
nothing start (x ∷ xs) e =
    let h = nothing (bit_or start x) xs e in
    let both = h.0 in
    let l = le_or_l start x in
    let r = le_or_r start x in
    let here : x ≡ 0 = omega arith in
    (omega arith, at here h.1)
  where
    at : x ≡ 0 → ((j : ℕ) → word xs j ≡ 0) → (j : ℕ) → word (x ∷ xs) j ≡ 0
    at here rest zero = here
    at here rest (suc j) = rest j

all_nothing : (xs : List ℕ) → ((j : ℕ) → word xs j ≡ 0) → fold_l bit_or 0 xs ≡ 0
all_nothing [] h = refl
all_nothing (x ∷ xs) h = ap (λ y. fold_l bit_or (bit_or 0 y) xs) (h 0) ∙ all_nothing xs (λ j. h (suc j))

-- some word has a bit, or none has
look : (xs : List ℕ) → ((j : ℕ) → word xs j ≡ 0) ⊎ ((j : ℕ) × ¬ (word xs j ≡ 0))
look [] = inl (λ j. refl)
look (suc x ∷ xs) = inr (0, λ e. omega arith)
look (zero ∷ xs) = elim (look xs) [ inl h ↦ inl (at h) | inr s ↦ inr (suc s.0, s.1) ]
  where
    at : ((j : ℕ) → word xs j ≡ 0) → (j : ℕ) → word (0 ∷ xs) j ≡ 0
    at h zero = refl
    at h (suc j) = h j

-- the lanes together have no bit exactly where none has
pub none_decides : (xs : List ℕ) → IsTrue (nat_eq (fold_l bit_or 0 xs) 0) ↔ ((j : ℕ) → word xs j ≡ 0)
none_decides xs = (λ t. (nothing 0 xs ((Decides-eqb (fold_l bit_or 0 xs) 0).0 t)).1, λ h. (Decides-eqb (fold_l bit_or 0 xs) 0).1 (all_nothing xs h))

pub some_decides : (xs : List ℕ) → IsTrue (not (nat_eq (fold_l bit_or 0 xs) 0)) ↔ ((j : ℕ) × ¬ (word xs j ≡ 0))
some_decides xs = (to (look xs), from)
  where
    to : ((j : ℕ) → word xs j ≡ 0) ⊎ ((j : ℕ) × ¬ (word xs j ≡ 0)) → IsTrue (not (nat_eq (fold_l bit_or 0 xs) 0)) → (j : ℕ) × ¬ (word xs j ≡ 0)
    to (inl h) t = let e = (none_decides xs).1 h in absurd (cc)
    to (inr s) t = s

    by : (b : Bool) → nat_eq (fold_l bit_or 0 xs) 0 ≡ b → ((j : ℕ) × ¬ (word xs j ≡ 0)) → IsTrue (not b)
    by true e s = absurd (s.1 ((none_decides xs).0 e s.0))
    by false e s = refl

    from : ((j : ℕ) × ¬ (word xs j ≡ 0)) → IsTrue (not (nat_eq (fold_l bit_or 0 xs) 0))
    from s = by (nat_eq (fold_l bit_or 0 xs) 0) refl s

-- a group of eight words
module _ (at : ℕ) (xs : List ℕ) (room : at + 8 ≤ length xs) where
  pub word_in : (j : ℕ) → j < 8 → word (chunk at 8 xs) j ≡ word xs (at + j)
  word_in j h = get_or-chunk at 8 xs j 0 h

  pub word_behind : (j : ℕ) → 8 ≤ j → word (chunk at 8 xs) j ≡ 0
  word_behind j h = get_or_past (chunk at 8 xs) j 0 (let l = length-chunk at 8 xs room in omega arith)

-- what a group comes to
module _ (f : ℕ → ℕ → ℕ) (at : ℕ) (target source : List ℕ) (room : at + 8 ≤ length target) (other : at + 8 ≤ length source) where
  abbrev group : List ℕ
  group = zip2 f (chunk at 8 target) (chunk at 8 source)

  long : length group ≡ 8
  long =
      let l = length-chunk at 8 target room in
      let m = length-chunk at 8 source other in
      length-zip2 f (chunk at 8 target) (chunk at 8 source) (l ∙ sym m) ∙ l

  lane : (j : ℕ) → j < 8 → word group j ≡ f (word target (at + j)) (word source (at + j))
  lane j h =
      let l = length-chunk at 8 target room in
      let m = length-chunk at 8 source other in
      get_or-zip2 f (chunk at 8 target) (chunk at 8 source) j 0 0 0 (omega arith) (omega arith) ∙ (λ i. f (word_in at target room j h i) (word_in at source other j h i))

  pub put_in : (j : ℕ) → at ≤ j → j < at + 8 → word (put_chunk at target group) j ≡ f (word target j) (word source j)
  put_in j from to =
      let l = long in
      let k : at + (j - at) ≡ j = omega arith in
      subst (λ n. word (put_chunk at target group) n ≡ f (word target n) (word source n)) k
      (get_or-put_chunk_at at target group (j - at) 0 (omega arith) (omega arith) ∙ lane (j - at) (omega arith))

  pub put_before : (j : ℕ) → j < at → word (put_chunk at target group) j ≡ word target j
  put_before j h = get_or-put_chunk_below at target group j 0 h

  pub put_behind : (j : ℕ) → at + 8 ≤ j → word (put_chunk at target group) j ≡ word target j
  put_behind j h = get_or-put_chunk_above at target group j 0 (let l = long in omega arith)

-- a common bit in the lanes of two groups, and in the words of the slices
module _ (at : ℕ) (left right : List ℕ) (room : at + 8 ≤ length left) (other : at + 8 ≤ length right) where
  pub meets_to : ((j : ℕ) × ¬ (bit_and (word (chunk at 8 left) j) (word (chunk at 8 right) j) ≡ 0)) → (j : ℕ) × (at ≤ j) × (j < at + 8) × ¬ (bit_and (word left j) (word right j) ≡ 0)
  meets_to (j, some) = elim (cases_lt j 8) [
    | inl h ↦ (at + j, omega arith, omega arith, subst (λ x. ¬ (bit_and x (word right (at + j)) ≡ 0)) (word_in at left room j h) (subst (λ y. ¬ (bit_and (word (chunk at 8 left) j) y ≡ 0)) (word_in at right other j h) some))
    | inr h ↦ absurd (some (ap (λ x. bit_and x (word (chunk at 8 right) j)) (word_behind at left room j h) ∙ none_left (word (chunk at 8 right) j)))
  ]

  pub meets_from : ((j : ℕ) × (at ≤ j) × (j < at + 8) × ¬ (bit_and (word left j) (word right j) ≡ 0)) → (j : ℕ) × ¬ (bit_and (word (chunk at 8 left) j) (word (chunk at 8 right) j) ≡ 0)
  meets_from (j, from, to, some) =
      let k : at + (j - at) ≡ j = omega arith in
      let h : j - at < 8 = omega arith in
      let x = word_in at left room (j - at) h ∙ ap (word left) k in
      let y = word_in at right other (j - at) h ∙ ap (word right) k in
      (j - at, λ e. some (sym (λ i. bit_and (x i) (y i)) ∙ e))

  pub within_to : ((j : ℕ) → bit_and (word (chunk at 8 left) j) (bit_not w64 (word (chunk at 8 right) j)) ≡ 0) → (j : ℕ) → at ≤ j → j < at + 8 → bit_and (word left j) (bit_not w64 (word right j)) ≡ 0
  within_to all j from to =
      let k : at + (j - at) ≡ j = omega arith in
      let h : j - at < 8 = omega arith in
      let x = word_in at left room (j - at) h ∙ ap (word left) k in
      let y = word_in at right other (j - at) h ∙ ap (word right) k in
      sym (λ i. bit_and (x i) (bit_not w64 (y i))) ∙ all (j - at)

  pub within_from : ((j : ℕ) → at ≤ j → j < at + 8 → bit_and (word left j) (bit_not w64 (word right j)) ≡ 0) → (j : ℕ) → bit_and (word (chunk at 8 left) j) (bit_not w64 (word (chunk at 8 right) j)) ≡ 0
  within_from all j = elim (cases_lt j 8) [
    | inl h ↦ (λ i. bit_and (word_in at left room j h i) (bit_not w64 (word_in at right other j h i))) ∙ all (at + j) (omega arith) (omega arith)
    | inr h ↦ ap (λ x. bit_and x (bit_not w64 (word (chunk at 8 right) j))) (word_behind at left room j h) ∙ none_left (bit_not w64 (word (chunk at 8 right) j))
  ]
