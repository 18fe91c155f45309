-- Rows of a square that are changed one by one: each row that has the middle gets the places of the middle's row.
use Rattle.std.proofs.Common.{◌≡◌, ℕ, zero, suc, ◌+◌, ◌-◌, ◌<◌, ◌≤◌, List, [], ◌∷◌, ◌++◌, length, replicate, slice_set, slice_index_or, Bool, true, false, ◌||◌, ◌↔◌, cond, refl, ap, sym, subst, ◌∙◌, ◌⊎◌, inl, inr, arith}
use Rattle.std.proofs.lemmas.List.{get_or_past, get_or_read, get_or-set_same, get_or-set_other, set-append_left, set-append_right, get_or_append_left, get_or-append_right, set-get_or, length-set, length-replicate, get_or-replicate}
use Rattle.std.proofs.lemmas.Bool.{cases_lt, cases_eq, cases_Bool, or_cases, or_left, or_right, false≢true, cond-true, cond-false}
use Rattle.ped_bits.specs.Places.{Has, union}
use Rattle.ped_bits.specs.Reaching.{row_of, Arrow, IsSquare}

-- ---- unions
union_same : (a : List Bool) → union a a ≡ a
union_same [] = refl
union_same (true ∷ a) = ap (λ (r : List Bool). true ∷ r) (union_same a)
union_same (false ∷ a) = ap (λ (r : List Bool). false ∷ r) (union_same a)

length-union : (a b : List Bool) → length a ≡ length b → length (union a b) ≡ length a
length-union [] b e = refl
length-union (x ∷ a) [] e = absurd (omega arith)
length-union (x ∷ a) (y ∷ b) e = ap suc (length-union a b (omega arith))

union_at : (a b : List Bool) (j : ℕ) → length a ≡ length b → slice_index_or (union a b) j false ≡ (slice_index_or a j false || slice_index_or b j false)
union_at [] [] j e = refl
union_at [] (y ∷ b) j e = absurd (omega arith)
union_at (x ∷ a) [] j e = absurd (omega arith)
union_at (x ∷ a) (y ∷ b) zero e = refl
union_at (x ∷ a) (y ∷ b) (suc j) e = union_at a b j (omega arith)

-- ---- the empty square
pub none_square : (n : ℕ) (rows : List (List Bool)) → rows ≡ replicate n (replicate n false) → IsSquare rows
none_square n rows e = subst (λ (m : List (List Bool)). IsSquare m) (sym e) square
  where
    square : IsSquare (replicate n (replicate n false))
    square i h =
        let l = length-replicate n (replicate n false) in
        ap length (get_or-replicate n i (replicate n false) [] (omega arith)) ∙ length-replicate n false ∙ sym l

-- ---- one row added to another, each in its part of the rows
module _ (rows front back : List (List Bool)) (from into : ℕ) (x y z : List Bool) (parts : rows ≡ front ++ back) (sum : z ≡ union y x) where
  pub add_above : length front ≡ into → into < length rows → from < into → x ≡ slice_index_or front from x → y ≡ slice_index_or back 0 y → 0 < length back → front ++ slice_set back 0 z ≡ slice_set rows into (union (row_of rows into) (row_of rows from))
  add_above at h k p q some =
      let nothing : into - into ≡ 0 = omega arith in
      let target = ap (λ (m : List (List Bool)). row_of m into) parts ∙ get_or-append_right front back into into [] at (omega arith) ∙ ap (λ (i : ℕ). slice_index_or back i []) nothing ∙ sym (get_or_read back 0 y some q []) in
      let source = ap (λ (m : List (List Bool)). row_of m from) parts ∙ get_or_append_left front back [] from (omega arith) ∙ sym (get_or_read front from x (omega arith) p []) in
      sym (
      (λ i. slice_set (parts i) into (union (target i) (source i))) ∙ ap (λ (r : List Bool). slice_set (front ++ back) into r) (sym sum)
      ∙ set-append_right front back into into z at (omega arith) ∙ ap (λ (i : ℕ). front ++ slice_set back i z) nothing
      )

  pub add_below : length front ≡ from → from < length rows → into < from → x ≡ slice_index_or back 0 x → y ≡ slice_index_or front into y → 0 < length back → slice_set front into z ++ back ≡ slice_set rows into (union (row_of rows into) (row_of rows from))
  add_below at h k p q some =
      let nothing : from - from ≡ 0 = omega arith in
      let source = ap (λ (m : List (List Bool)). row_of m from) parts ∙ get_or-append_right front back from from [] at (omega arith) ∙ ap (λ (i : ℕ). slice_index_or back i []) nothing ∙ sym (get_or_read back 0 x some p []) in
      let target = ap (λ (m : List (List Bool)). row_of m into) parts ∙ get_or_append_left front back [] into (omega arith) ∙ sym (get_or_read front into y (omega arith) q []) in
      sym (
      (λ i. slice_set (parts i) into (union (target i) (source i))) ∙ ap (λ (r : List Bool). slice_set (front ++ back) into r) (sym sum)
      ∙ set-append_left front back into z (omega arith)
      )

pub add_itself : (rows : List (List Bool)) (from into : ℕ) → into ≤ from → from ≤ into → rows ≡ slice_set rows into (union (row_of rows into) (row_of rows from))
add_itself rows from into h k =
    let same : from ≡ into = omega arith in
    sym (ap (λ (i : ℕ). slice_set rows into (union (row_of rows into) (row_of rows i))) same ∙ ap (λ (r : List Bool). slice_set rows into r) (union_same (row_of rows into)) ∙ set-get_or rows into [])

-- ---- a row after the middle was gone over
abbrev pub merged : List (List Bool) → ℕ → ℕ → List Bool
merged rows middle i = cond (slice_index_or (row_of rows i) middle false) (union (row_of rows i) (row_of rows middle)) (row_of rows i)

-- the first n rows are gone over, the others and the middle's are as they were
pub record IsGoneOver (old : List (List Bool)) (middle n : ℕ) (rows : List (List Bool)) : Type 0 where
  pub width : length rows ≡ length old
  pub done : (i : ℕ) → i < n → row_of rows i ≡ merged old middle i
  pub left : (i : ℕ) → n ≤ i → row_of rows i ≡ row_of old i
  pub over : row_of rows middle ≡ row_of old middle

pub start : (rows : List (List Bool)) (middle : ℕ) → IsGoneOver rows middle 0 rows
start rows middle = record { width = refl; done = λ i h. absurd (omega arith); left = λ i h. refl; over = refl }

module _ (old rows : List (List Bool)) (middle n : ℕ) (gone : IsGoneOver old middle n rows) where
  pub skip : slice_index_or (row_of rows n) middle false ≡ false → IsGoneOver old middle (n + 1) rows
  skip f = record {
    width = gone.width;
    done = λ i h. elim (cases_eq i n) [
      | inl e ↦
          subst (λ (k : ℕ). row_of rows k ≡ merged old middle k) (sym e) (
          gone.left n (omega arith)
          ∙ sym (cond-false (slice_index_or (row_of old n) middle false) (union (row_of old n) (row_of old middle)) (row_of old n) (ap (λ (r : List Bool). slice_index_or r middle false) (sym (gone.left n (omega arith))) ∙ f))
          )
      | inr d ↦ gone.done i (omega arith)
    ];
    left = λ i h. gone.left i (omega arith);
    over = gone.over;
  }

  pub merge : n < length rows → slice_index_or (row_of rows n) middle false ≡ true → IsGoneOver old middle (n + 1) (slice_set rows n (union (row_of rows n) (row_of rows middle)))
  merge l t =
      let z = union (row_of rows n) (row_of rows middle) in
      let at = gone.left n (omega arith) in
      record {
        width = length-set rows n z ∙ gone.width;
        done = λ i h. elim (cases_eq i n) [
          | inl e ↦
              subst (λ (k : ℕ). row_of (slice_set rows n z) k ≡ merged old middle k) (sym e) (
              get_or-set_same rows n z [] l ∙ (λ k. union (at k) (gone.over k))
              ∙ sym (cond-true (slice_index_or (row_of old n) middle false) (union (row_of old n) (row_of old middle)) (row_of old n) (ap (λ (r : List Bool). slice_index_or r middle false) (sym at) ∙ t))
              )
          | inr d ↦ get_or-set_other rows n i z [] d ∙ gone.done i (omega arith)
        ];
        left = λ i h. get_or-set_other rows n i z [] (λ (e : i ≡ n). omega arith) ∙ gone.left i (omega arith);
        over = elim (cases_eq middle n) [
          | inl e ↦
              subst (λ (k : ℕ). row_of (slice_set rows n z) k ≡ row_of old k) (sym e) (
              get_or-set_same rows n z [] l ∙ ap (λ (k : ℕ). union (row_of rows n) (row_of rows k)) e ∙ union_same (row_of rows n) ∙ at
              )
          | inr d ↦ get_or-set_other rows n middle z [] d ∙ gone.over
        ];
      }

module _ (old rows : List (List Bool)) (middle n : ℕ) (gone : IsGoneOver old middle n rows) (square : IsSquare old) (h : middle < length old) where
  none_past : (i : ℕ) → length old ≤ i → merged old middle i ≡ row_of old i
  none_past i g = cond-false (slice_index_or (row_of old i) middle false) (union (row_of old i) (row_of old middle)) (row_of old i) (ap (λ (r : List Bool). slice_index_or r middle false) (get_or_past old i [] g))

  same_length : (i : ℕ) → i < length old → length (row_of old i) ≡ length (row_of old middle)
  same_length i l = square i l ∙ sym (square middle h)

  merged_length : (i : ℕ) → i < length old → length (merged old middle i) ≡ length old
  merged_length i l = elim (cases_Bool (slice_index_or (row_of old i) middle false)) [
    | inl t ↦ ap length (cond-true (slice_index_or (row_of old i) middle false) (union (row_of old i) (row_of old middle)) (row_of old i) t) ∙ length-union (row_of old i) (row_of old middle) (same_length i l) ∙ square i l
    | inr f ↦ ap length (cond-false (slice_index_or (row_of old i) middle false) (union (row_of old i) (row_of old middle)) (row_of old i) f) ∙ square i l
  ]

  -- the rows stay as long
  pub row_length : (i : ℕ) → i < length old → length (row_of rows i) ≡ length old
  row_length i l = elim (cases_lt i n) [
    | inl k ↦ ap length (gone.done i k) ∙ merged_length i l
    | inr g ↦ ap length (gone.left i g) ∙ square i l
  ]

  pub still_square : IsSquare rows
  still_square i l = let w = gone.width in row_length i (omega arith) ∙ sym w

  row_is : length old ≤ n → (i : ℕ) → row_of rows i ≡ merged old middle i
  row_is e i = elim (cases_lt i n) [
    | inl k ↦ gone.done i k
    | inr g ↦ gone.left i g ∙ sym (none_past i (omega arith))
  ]

  merged_has : (i j : ℕ) → Has (merged old middle i) j ↔ (Arrow old i j ⊎ (Arrow old i middle × Arrow old middle j))
  merged_has i j = elim (cases_Bool (slice_index_or (row_of old i) middle false)) [
    | inl t ↦
        let is = cond-true (slice_index_or (row_of old i) middle false) (union (row_of old i) (row_of old middle)) (row_of old i) t in
        let within : i < length old = elim (cases_lt i (length old)) [
          | inl l ↦ l
          | inr g ↦ absurd (false≢true (sym (ap (λ (r : List Bool). slice_index_or r middle false) (get_or_past old i [] g)) ∙ t))
        ] in
        let at = ap (λ (r : List Bool). slice_index_or r j false) is ∙ union_at (row_of old i) (row_of old middle) j (same_length i within) in (
          λ g. elim (or_cases (slice_index_or (row_of old i) j false) (slice_index_or (row_of old middle) j false) (sym at ∙ g)) [
            | inl a ↦ inl a
            | inr b ↦ inr (t, b)
          ],
          λ s. at ∙ (elim s [
            | inl a ↦ or_left (slice_index_or (row_of old i) j false) (slice_index_or (row_of old middle) j false) a
            | inr b ↦ or_right (slice_index_or (row_of old i) j false) (slice_index_or (row_of old middle) j false) b.1
          ]),
        )
    | inr f ↦
        let is = cond-false (slice_index_or (row_of old i) middle false) (union (row_of old i) (row_of old middle)) (row_of old i) f in
        let at = ap (λ (r : List Bool). slice_index_or r j false) is in (
          λ g. inl (sym at ∙ g),
          λ s. elim s [
            | inl a ↦ at ∙ a
            | inr b ↦ absurd (false≢true (sym f ∙ b.0))
          ],
        )
  ]

  pub all_gone_over : length old ≤ n → (i j : ℕ) → Arrow rows i j ↔ (Arrow old i j ⊎ (Arrow old i middle × Arrow old middle j))
  all_gone_over e i j = subst (λ (r : List Bool). Has r j ↔ (Arrow old i j ⊎ (Arrow old i middle × Arrow old middle j))) (sym (row_is e i)) (merged_has i j)
