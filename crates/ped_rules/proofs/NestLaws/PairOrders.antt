-- The iterations of two loops, one in the other, and the same ones with the loops in each other's place: the blocks of the pairs stand by rows first, and by columns then.
use Rattle.std.proofs.Common.{Bool, List, [], ap, arith, false, inl, inr, refl, subst, sym, ℕ, ◌+◌, ◌-◌, ◌<◌, ◌∙◌, ◌∷◌, ◌≡◌, ◌≤◌}
use Rattle.std.specs.List.{flat_map, range_with_len}
use Rattle.ped_rules.proofs.NestLaws.NestKnots.{among_rows, before_in_rows, in_numbers, in_rows, one_of_numbers}
use Rattle.ped_loop_runs.specs.ped_laws.proofs.ActLaws.Reorderings.{column_order, rows_once}
use Rattle.ped_loop_runs.specs.ped_laws.specs.Acts.Conflicts.{blocks_conflict_outside}
use Rattle.ped_loop_runs.specs.ped_laws.specs.Acts.Grids.{block_at}
use Rattle.ped_loop_runs.specs.ped_laws.specs.Acts.Orders.{Block, EachOnce, HaveSameItems, IsByColumns, IsByRows, IsIn, IsReordered, KeepsOrder, NoneCrosses, StandsBefore, block_conflict}
use Rattle.ped_loop_runs.specs.ped_store.specs.Acts.{Act}
use Rattle.ped_loop_runs.specs.ped_store.specs.Cells.{Cell}

-- iteration j of the inner loop in iteration i of the outer one is done in iteration `later i + j` of the new outer loop, as iteration `i - below (later i + j)` of the new inner one; and so back
pub record IsRegrouped (n m : ℕ) (row column later below : ℕ → ℕ) : Type 0 where
  pub forth : (i j : ℕ) → 1 ≤ i → i ≤ n → 1 ≤ j → j ≤ row i → (later i + j ≤ m) × (below (later i + j) < i) × (i ≤ below (later i + j) + column (later i + j))
  pub back : (a b : ℕ) → 1 ≤ a → a ≤ m → 1 ≤ b → b ≤ column a → (below a + b ≤ n) × (later (below a + b) < a) × (a ≤ later (below a + b) + row (below a + b))

one_item : {Y : Type 0} (x y : Y) → IsIn x (y ∷ []) → x ≡ y
one_item x y (inl e) = e
one_item x y (inr k) = absurd k

one_alone : {Y : Type 0} (x y z : Y) → StandsBefore x y (z ∷ []) → ⊥
one_alone x y z (inl k) = k.1
one_alone x y z (inr k) = k

module _ (n m : ℕ) (row column later below : ℕ → ℕ) (same : IsRegrouped n m row column later below) (acts : ℕ → ℕ → List Act) where
  abbrev pub old_row : ℕ → List Block
  old_row i = flat_map (λ j. block_at acts i (later i + j) ∷ []) (range_with_len 1 (row i))

  abbrev pub old_blocks : List Block
  old_blocks = flat_map old_row (range_with_len 1 n)

  abbrev pub new_row : ℕ → List Block
  new_row a = flat_map (λ b. block_at acts (below a + b) a ∷ []) (range_with_len 1 (column a))

  abbrev pub new_blocks : List Block
  new_blocks = flat_map new_row (range_with_len 1 m)

  -- a block of a row
  in_old_row : (i : ℕ) (x : Block) → IsIn x (old_row i) → (j : ℕ) × (1 ≤ j) × (j ≤ row i) × (x ≡ block_at acts i (later i + j))
  in_old_row i x k =
      let r = in_rows (λ j. block_at acts i (later i + j) ∷ []) (range_with_len 1 (row i)) x k in
      let w = in_numbers (row i) 1 r.0 r.1 in
      let hi = w.1 in
      (r.0, w.0, omega (arith, hi), one_item x (block_at acts i (later i + r.0)) r.2)

  in_new_row : (a : ℕ) (x : Block) → IsIn x (new_row a) → (b : ℕ) × (1 ≤ b) × (b ≤ column a) × (x ≡ block_at acts (below a + b) a)
  in_new_row a x k =
      let r = in_rows (λ b. block_at acts (below a + b) a ∷ []) (range_with_len 1 (column a)) x k in
      let w = in_numbers (column a) 1 r.0 r.1 in
      let hi = w.1 in
      (r.0, w.0, omega (arith, hi), one_item x (block_at acts (below a + r.0) a) r.2)

  pub in_old : (x : Block) → IsIn x old_blocks → (i j : ℕ) × (1 ≤ i) × (i ≤ n) × (1 ≤ j) × (j ≤ row i) × (x ≡ block_at acts i (later i + j))
  in_old x k =
      let r = in_rows old_row (range_with_len 1 n) x k in
      let w = in_numbers n 1 r.0 r.1 in
      let hi = w.1 in
      let q = in_old_row r.0 x r.2 in
      (r.0, q.0, w.0, omega (arith, hi), q.1, q.2, q.3)

  in_new : (x : Block) → IsIn x new_blocks → (a b : ℕ) × (1 ≤ a) × (a ≤ m) × (1 ≤ b) × (b ≤ column a) × (x ≡ block_at acts (below a + b) a)
  in_new x k =
      let r = in_rows new_row (range_with_len 1 m) x k in
      let w = in_numbers m 1 r.0 r.1 in
      let hi = w.1 in
      let q = in_new_row r.0 x r.2 in
      (r.0, q.0, w.0, omega (arith, hi), q.1, q.2, q.3)

  put_old : (i j : ℕ) → 1 ≤ i → i ≤ n → 1 ≤ j → j ≤ row i → IsIn (block_at acts i (later i + j)) old_blocks
  put_old i j from to low high =
      among_rows old_row (range_with_len 1 n) i (block_at acts i (later i + j)) (one_of_numbers n 1 i from (omega (arith, to)))
      (among_rows (λ k. block_at acts i (later i + k) ∷ []) (range_with_len 1 (row i)) j (block_at acts i (later i + j)) (one_of_numbers (row i) 1 j low (omega (arith, high))) (inl refl))

  put_new : (a b : ℕ) → 1 ≤ a → a ≤ m → 1 ≤ b → b ≤ column a → IsIn (block_at acts (below a + b) a) new_blocks
  put_new a b from to low high =
      among_rows new_row (range_with_len 1 m) a (block_at acts (below a + b) a) (one_of_numbers m 1 a from (omega (arith, to)))
      (among_rows (λ k. block_at acts (below a + k) a ∷ []) (range_with_len 1 (column a)) b (block_at acts (below a + b) a) (one_of_numbers (column a) 1 b low (omega (arith, high))) (inl refl))

  -- the old ones by rows, the new ones by columns
  by_rows : IsByRows old_blocks
  by_rows x y before = elim (before_in_rows old_row n 1 x y before) [
    | inl r ↦ elim (before_in_rows (λ j. block_at acts r.row (later r.row + j) ∷ []) (row r.row) 1 x y r.before) [
      | inl q ↦ absurd (one_alone x y (block_at acts r.row (later r.row + q.row)) q.before)
      | inr q ↦ inr (let less = q.less in within r.row q.one q.other less (one_item x (block_at acts r.row (later r.row + q.one)) q.first) (one_item y (block_at acts r.row (later r.row + q.other)) q.second))
    ]
    | inr r ↦ (
        let f = in_old_row r.one x r.first in
        let g = in_old_row r.other y r.second in
        inl (across r.one f.0 r.other g.0 r.less f.3 g.3)
        )
  ]
    where
      within : (i j k : ℕ) → j < k → x ≡ block_at acts i (later i + j) → y ≡ block_at acts i (later i + k) → (x.outer ≡ y.outer) × (x.inner < y.inner)
      within i j k less f g = (
        ap (λ (b : Block). b.outer) f ∙ sym (ap (λ (b : Block). b.outer) g),
        subst (λ (b : Block). b.inner < y.inner) (sym f) (subst (λ (b : Block). later i + j < b.inner) (sym g) (omega (arith, less))),
      )

      across : (i j k q : ℕ) → i < k → x ≡ block_at acts i (later i + j) → y ≡ block_at acts k (later k + q) → x.outer < y.outer
      across i j k q less f g = subst (λ (b : Block). b.outer < y.outer) (sym f) (subst (λ (b : Block). i < b.outer) (sym g) less)

  by_columns : IsByColumns new_blocks
  by_columns x y before = elim (before_in_rows new_row m 1 x y before) [
    | inl r ↦ elim (before_in_rows (λ b. block_at acts (below r.row + b) r.row ∷ []) (column r.row) 1 x y r.before) [
      | inl q ↦ absurd (one_alone x y (block_at acts (below r.row + q.row) r.row) q.before)
      | inr q ↦ inr (let less = q.less in within r.row q.one q.other less (one_item x (block_at acts (below r.row + q.one) r.row) q.first) (one_item y (block_at acts (below r.row + q.other) r.row) q.second))
    ]
    | inr r ↦ (
        let f = in_new_row r.one x r.first in
        let g = in_new_row r.other y r.second in
        inl (across r.one f.0 r.other g.0 r.less f.3 g.3)
        )
  ]
    where
      within : (a j k : ℕ) → j < k → x ≡ block_at acts (below a + j) a → y ≡ block_at acts (below a + k) a → (x.inner ≡ y.inner) × (x.outer < y.outer)
      within a j k less f g = (
        ap (λ (b : Block). b.inner) f ∙ sym (ap (λ (b : Block). b.inner) g),
        subst (λ (b : Block). b.outer < y.outer) (sym f) (subst (λ (b : Block). below a + j < b.outer) (sym g) (omega (arith, less))),
      )

      across : (i j k q : ℕ) → i < k → x ≡ block_at acts (below i + j) i → y ≡ block_at acts (below k + q) k → x.inner < y.inner
      across i j k q less f g = subst (λ (b : Block). b.inner < y.inner) (sym f) (subst (λ (b : Block). i < b.inner) (sym g) less)

  -- and they are the same
  same_items : HaveSameItems old_blocks new_blocks
  same_items = record { none_lost = lost; none_added = added }
    where
      lost : (x : Block) → IsIn x old_blocks → IsIn x new_blocks
      lost x k =
          let r = in_old x k in
          let f = same.forth r.0 r.1 r.2 r.3 r.4 r.5 in
          let low = r.4 in
          let under = f.1 in
          let over = f.2 in
          let a = later r.0 + r.1 in
          let b = r.0 - below (later r.0 + r.1) in
          let is : below (later r.0 + r.1) + (r.0 - below (later r.0 + r.1)) ≡ r.0 = omega (arith, under) in
          subst (λ (z : Block). IsIn z new_blocks) (ap (λ (i : ℕ). block_at acts i (later r.0 + r.1)) is ∙ sym r.6)
          (put_new (later r.0 + r.1) (r.0 - below (later r.0 + r.1)) (omega (arith, low)) f.0 (omega (arith, under)) (omega (arith, over, under)))

      added : (x : Block) → IsIn x new_blocks → IsIn x old_blocks
      added x k =
          let r = in_new x k in
          let f = same.back r.0 r.1 r.2 r.3 r.4 r.5 in
          let low = r.4 in
          let under = f.1 in
          let over = f.2 in
          let is : later (below r.0 + r.1) + (r.0 - later (below r.0 + r.1)) ≡ r.0 = omega (arith, under) in
          subst (λ (z : Block). IsIn z old_blocks) (ap (λ (a : ℕ). block_at acts (below r.0 + r.1) a) is ∙ sym r.6)
          (put_old (below r.0 + r.1) (r.0 - later (below r.0 + r.1)) (omega (arith, low)) f.0 (omega (arith, under)) (omega (arith, over, under)))

  -- so blocks that conflict keep their order, where none conflicts with one of a later iteration of the outer loop and an earlier one of the inner loop
  module _ (idle : Cell → Bool) (apart : (i j k q : ℕ) → 1 ≤ i → i ≤ n → 1 ≤ j → j ≤ row i → 1 ≤ k → k ≤ n → 1 ≤ q → q ≤ row k → i < k → later k + q < later i + j → blocks_conflict_outside idle (acts i (later i + j)) (acts k (later k + q)) ≡ false) where
    none_crosses : NoneCrosses idle old_blocks
    none_crosses x y f g outer inner =
        let r = in_old x f in
        let w = in_old y g in
        ap (λ (z : Block). block_conflict idle z y) r.6 ∙ ap (block_conflict idle (block_at acts r.0 (later r.0 + r.1))) w.6
        ∙ apart r.0 r.1 w.0 w.1 r.2 r.3 r.4 r.5 w.2 w.3 w.4 w.5
        (subst (λ (z : Block). z.outer < w.0) r.6 (subst (λ (z : Block). x.outer < z.outer) w.6 outer))
        (subst (λ (z : Block). z.inner < later r.0 + r.1) w.6 (subst (λ (z : Block). y.inner < z.inner) r.6 inner))

    pub pairs_ordered : EachOnce old_blocks × IsReordered old_blocks new_blocks × KeepsOrder (block_conflict idle) old_blocks new_blocks
    pairs_ordered = let kept = column_order idle old_blocks new_blocks by_rows by_columns same_items none_crosses in (rows_once old_blocks by_rows, kept.0, kept.1)
