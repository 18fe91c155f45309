-- Numbers of the statements of a program in which an iteration of a DO is peeled off: the DO that is left and its body have the old numbers, and the copy of the body has numbers of which the old program has none.
use Rattle.ped_rules.specs.ped_loop_runs.proofs.PastingLaws.CountedNumbers.{Differ, append_apart, in_row, inside_counts, row_apart, row_in}
use Rattle.ped_rules.specs.ped_loop_runs.specs.Numbers.{FitInGap, counted_by, in_a_row, kept_numbers}
use Rattle.ped_rules.specs.ped_laws.proofs.ActLaws.Lists.{in_left, in_parts, in_right}
use Rattle.std.proofs.Common.{Bool, List, ap, arith, false, inl, inr, refl, suc, sym, true, zero, ℕ, ◌++◌, ◌+◌, ◌-◌, ◌<◌, ◌∙◌, ◌≡◌, ◌≤◌, ◌⊎◌}

-- the number of the copy of a statement
abbrev pub copied : (all : ℕ) → ℕ → ℕ
copied all n = n + (all + 1)

-- where the DO that is left stands, and the copy of its body
abbrev pub loop_at : (last : Bool) → (s size : ℕ) → ℕ
loop_at false s size = s + size
loop_at true s size = s

abbrev pub copy_at : (last : Bool) → (s size : ℕ) → ℕ
copy_at false s size = s
copy_at true s size = s + 1 + size

abbrev pub its_pairs : (last : Bool) → (s size all : ℕ) → List (ℕ × ℕ)
its_pairs last s size all = in_a_row (loop_at last s size) s (size + 1) ++ in_a_row (copy_at last s size) (copied all (s + 1)) size

abbrev pub its_numbers : (last : Bool) → (s size all : ℕ) → List (ℕ × ℕ)
its_numbers last s size all = kept_numbers s (size + 1) (size + 1 + size) all (its_pairs last s size all)

at_least : (a b : ℕ) → (a ≤ b) ⊎ (b < a)
at_least zero b = inl (omega arith)
at_least (suc a) zero = inr (omega arith)
at_least (suc a) (suc b) = elim (at_least a b) [ inl h ↦ inl (omega (arith, h)) | inr h ↦ inr (omega (arith, h)) ]

module _ (last : Bool) (s size all : ℕ) (room : s + size ≤ all) where
  abbrev loop_row : List (ℕ × ℕ)
  loop_row = in_a_row (loop_at last s size) s (size + 1)

  abbrev copy_row : List (ℕ × ℕ)
  copy_row = in_a_row (copy_at last s size) (copied all (s + 1)) size

  -- where both stand
  loop_low : s ≤ loop_at last s size
  loop_low = by last
    where
      by : (b : Bool) → s ≤ loop_at b s size
      by false = omega arith
      by true = omega arith

  loop_high : loop_at last s size ≤ s + size
  loop_high = by last
    where
      by : (b : Bool) → loop_at b s size ≤ s + size
      by false = omega arith
      by true = omega arith

  copy_low : s ≤ copy_at last s size
  copy_low = by last
    where
      by : (b : Bool) → s ≤ copy_at b s size
      by false = omega arith
      by true = omega arith

  copy_high : copy_at last s size ≤ s + 1 + size
  copy_high = by last
    where
      by : (b : Bool) → copy_at b s size ≤ s + 1 + size
      by false = omega arith
      by true = omega arith

  aside : (j k : ℕ) → j < size + 1 → k < size → copy_at last s size + k ≡ loop_at last s size + j → ⊥
  aside j k less short = by last
    where
      by : (b : Bool) → copy_at b s size + k ≡ loop_at b s size + j → ⊥
      by false e = omega (arith, e, less, short)
      by true e = omega (arith, e, less, short)

  differ : Differ loop_row copy_row
  differ x y i j =
      let h = in_row (loop_at last s size) s (size + 1) x i in
      let k = in_row (copy_at last s size) (copied all (s + 1)) size y j in
      let h_second = h.3 in
      let h_less = h.1 in
      let k_second = k.3 in
      (λ e. aside h.0 k.0 h.1 k.1 (sym k.2 ∙ e ∙ h.2), λ e. omega (arith, h_second, h_less, k_second, e, room))

  pub numbers_fit : FitInGap s (size + 1) (size + 1 + size) all (its_pairs last s size all)
  numbers_fit = record {
    room = omega (arith, room);
    apart = append_apart loop_row copy_row (row_apart (loop_at last s size) s (size + 1)) (row_apart (copy_at last s size) (copied all (s + 1)) size) differ;
    from = λ y i. elim (in_parts y loop_row copy_row i) [
      | inl j ↦ (let h = in_row (loop_at last s size) s (size + 1) y j in let is = h.2 in let low = loop_low in omega (arith, is, low))
      | inr j ↦ (let h = in_row (copy_at last s size) (copied all (s + 1)) size y j in let is = h.2 in let low = copy_low in omega (arith, is, low))
    ];
    to = λ y i. elim (in_parts y loop_row copy_row i) [
      | inl j ↦ (let h = in_row (loop_at last s size) s (size + 1) y j in let is = h.2 in let less = h.1 in let high = loop_high in omega (arith, is, less, high))
      | inr j ↦ (let h = in_row (copy_at last s size) (copied all (s + 1)) size y j in let is = h.2 in let less = h.1 in let high = copy_high in omega (arith, is, less, high))
    ];
    under = λ y i. elim (in_parts y loop_row copy_row i) [
      | inl j ↦ (let h = in_row (loop_at last s size) s (size + 1) y j in let is = h.3 in let less = h.1 in inl (omega (arith, is), omega (arith, is, less)))
      | inr j ↦ (let h = in_row (copy_at last s size) (copied all (s + 1)) size y j in let is = h.3 in inr (omega (arith, is)))
    ];
  }

  abbrev counts : ℕ → ℕ
  counts = counted_by (its_numbers last s size all)

  pub loop_counts : (k : ℕ) → k < size + 1 → counted_by (its_numbers last s size all) (loop_at last s size + k) ≡ s + k
  loop_counts k less =
      let r = row_in (loop_at last s size) s (size + 1) k less in
      ap counts (sym r.2) ∙ inside_counts s (size + 1) (size + 1 + size) all (its_pairs last s size all) numbers_fit r.0 (in_left r.0 loop_row copy_row r.1) ∙ r.3

  pub copy_counts : (k : ℕ) → k < size → counted_by (its_numbers last s size all) (copy_at last s size + k) ≡ copied all (s + 1 + k)
  copy_counts k less =
      let r = row_in (copy_at last s size) (copied all (s + 1)) size k less in
      let same : copied all (s + 1) + k ≡ copied all (s + 1 + k) = omega arith in
      ap counts (sym r.2) ∙ inside_counts s (size + 1) (size + 1 + size) all (its_pairs last s size all) numbers_fit r.0 (in_right r.0 loop_row copy_row r.1) ∙ r.3 ∙ same

  -- each new statement has an old number there, or one that no old statement has
  pub new_number : (x : ℕ) → s ≤ x → x < s + (size + 1 + size) → ((s ≤ counted_by (its_numbers last s size all) x) × (counted_by (its_numbers last s size all) x < s + (size + 1))) ⊎ (all < counted_by (its_numbers last s size all) x)
  new_number x low high = by last refl
    where
      in_loop : (k : ℕ) → k < size + 1 → x ≡ loop_at last s size + k → (s ≤ counts x) × (counts x < s + (size + 1))
      in_loop k less is = let number = ap counts is ∙ loop_counts k less in (omega (arith, number), omega (arith, number, less))

      in_copy : (k : ℕ) → k < size → x ≡ copy_at last s size + k → all < counts x
      in_copy k less is = let number = ap counts is ∙ copy_counts k less in omega (arith, number)

      by : (b : Bool) → last ≡ b → ((s ≤ counts x) × (counts x < s + (size + 1))) ⊎ (all < counts x)
      by false is = elim (at_least (s + size) x) [
        | inl above ↦ inl (in_loop (x - (s + size)) (omega (arith, above, high)) (let there = ap (λ (b : Bool). loop_at b s size) is in omega (arith, there, above)))
        | inr below ↦ inr (in_copy (x - s) (omega (arith, below, low)) (let there = ap (λ (b : Bool). copy_at b s size) is in omega (arith, there, low)))
      ]
      by true is = elim (at_least (s + 1 + size) x) [
        | inl above ↦ inr (in_copy (x - (s + 1 + size)) (omega (arith, above, high)) (let there = ap (λ (b : Bool). copy_at b s size) is in omega (arith, there, above)))
        | inr below ↦ inl (in_loop (x - s) (omega (arith, below, low)) (let there = ap (λ (b : Bool). loop_at b s size) is in omega (arith, there, low)))
      ]
