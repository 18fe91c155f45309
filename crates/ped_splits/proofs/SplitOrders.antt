-- What units do in iterations, by iterations before the step, and by blocks and in each by iterations behind it: what conflicts stays in order.
use Rattle.std.proofs.Common.{◌≡◌, ◌⊎◌, ℕ, zero, suc, ◌+◌, ◌<◌, ◌≤◌, List, [], ◌∷◌, ◌++◌, Bool, true, false, inl, inr, refl, sym, ap, subst, ◌∙◌, arith}
use Rattle.std.proofs.lemmas.Bool.{both_ways, cases_lt}
use Rattle.std.specs.List.{flat_map, range_with_len}
use Rattle.std.specs.Prelude.{slice_index_or}
use Rattle.ped_rules.proofs.NestLaws.NestKnots.{among_rows, before_in_rows, in_numbers, in_rows, one_of_numbers}
use Rattle.ped_rules.specs.ped_laws.proofs.ActLaws.Lists.{before_across, before_left, before_parts, before_right, first_in, in_left, in_parts, in_right, second_in}
use Rattle.ped_rules.specs.ped_laws.proofs.ActLaws.Reorderings.{rows_once}
use Rattle.ped_rules.specs.ped_laws.specs.Acts.Conflicts.{blocks_conflict_outside}
use Rattle.ped_rules.specs.ped_laws.specs.Acts.Grids.{block_at}
use Rattle.ped_rules.specs.ped_laws.specs.Acts.Orders.{Block, EachOnce, IsByRows, IsIn, IsReordered, KeepsOrder, StandsBefore, block_conflict}
use Rattle.ped_rules.specs.ped_store.specs.Acts.{Act}
use Rattle.ped_rules.specs.ped_store.specs.Cells.{Cell}
use Rattle.ped_splits.proofs.PiBlockLaws.{In, in_either}
use Rattle.ped_splits.proofs.BlockPlaces.{AreApart, AreRising, IsRising}
use Rattle.ped_splits.proofs.Partitions.{flat}

is_in : (k : ℕ) (ks : List ℕ) → In k ks → IsIn k ks
is_in k [] i = absurd i
is_in k (z ∷ ks) (inl e) = inl e
is_in k (z ∷ ks) (inr i) = inr (is_in k ks i)

in_it : (k : ℕ) (ks : List ℕ) → IsIn k ks → In k ks
in_it k [] i = absurd i
in_it k (z ∷ ks) (inl e) = inl e
in_it k (z ∷ ks) (inr i) = inr (in_it k ks i)

-- the block of a unit
pub index_of : (k : ℕ) (found : List (List ℕ)) → In k (flat found) → (b : ℕ) × In k (slice_index_or found b [])
index_of k [] i = absurd i
index_of k (block ∷ found) i = elim (in_either k block (flat found) i) [
  | inl j ↦ (0, j)
  | inr j ↦ (let r = index_of k found j in (suc r.0, r.1))
]

pub before_by_rows : {X : Type 0} (f : ℕ → List X) (a m i j : ℕ) (x y : X) → a ≤ i → i < j → j < a + m → IsIn x (f i) → IsIn y (f j) → StandsBefore x y (flat_map f (range_with_len a m))
before_by_rows f a zero i j x y from less to k l = absurd (omega (arith, from, less, to))
before_by_rows f a (suc m) i j x y from less to k l = elim (cases_lt a i) [
  | inl later ↦ before_right x y (f a) (flat_map f (range_with_len (a + 1) m)) (before_by_rows f (a + 1) m i j x y (omega (arith, later)) less (omega (arith, to)) k l)
  | inr here ↦ (
      let same : i ≡ a = omega (arith, from, here) in
      before_across x y (f a) (flat_map f (range_with_len (a + 1) m)) (subst (λ (n : ℕ). IsIn x (f n)) same k) (among_rows f (range_with_len (a + 1) m) j y (one_of_numbers m (a + 1) j (omega (arith, from, less)) (omega (arith, to))) l)
      )
]

pub before_in_row : {X : Type 0} (f : ℕ → List X) (a m i : ℕ) (x y : X) → a ≤ i → i < a + m → StandsBefore x y (f i) → StandsBefore x y (flat_map f (range_with_len a m))
before_in_row f a zero i x y from to b = absurd (omega (arith, from, to))
before_in_row f a (suc m) i x y from to b = elim (cases_lt a i) [
  | inl later ↦ before_right x y (f a) (flat_map f (range_with_len (a + 1) m)) (before_in_row f (a + 1) m i x y (omega (arith, later)) (omega (arith, to)) b)
  | inr here ↦ (let same : i ≡ a = omega (arith, from, here) in before_left x y (f a) (flat_map f (range_with_len (a + 1) m)) (subst (λ (n : ℕ). StandsBefore x y (f n)) same b))
]

module _ (n m : ℕ) (acts : ℕ → ℕ → List Act) where
  -- what these units do in one iteration
  abbrev pub units_row : List ℕ → ℕ → List Block
  units_row ks i = flat_map (λ k. block_at acts i k ∷ []) ks

  abbrev pub old_blocks : List Block
  old_blocks = flat_map (units_row (range_with_len 0 m)) (range_with_len 1 n)

  abbrev pub new_blocks : List (List ℕ) → List Block
  new_blocks [] = []
  new_blocks (block ∷ found) = flat_map (units_row block) (range_with_len 1 n) ++ new_blocks found

  -- a block of a row
  of_row : (ks : List ℕ) (i : ℕ) (x : Block) → IsIn x (units_row ks i) → (k : ℕ) × In k ks × (x ≡ block_at acts i k)
  of_row ks i x h = let r = in_rows (λ k. block_at acts i k ∷ []) ks x h in (r.0, in_it r.0 ks r.1, one r.0 r.2)
    where
      one : (k : ℕ) → IsIn x (block_at acts i k ∷ []) → x ≡ block_at acts i k
      one k (inl e) = e
      one k (inr none) = absurd none

  pub in_row : (ks : List ℕ) (i k : ℕ) → In k ks → IsIn (block_at acts i k) (units_row ks i)
  in_row ks i k h = among_rows (λ j. block_at acts i j ∷ []) ks k (block_at acts i k) (is_in k ks h) (inl refl)

  pub of_rows : (ks : List ℕ) (x : Block) → IsIn x (flat_map (units_row ks) (range_with_len 1 n)) → (i k : ℕ) × (1 ≤ i) × (i ≤ n) × In k ks × (x ≡ block_at acts i k)
  of_rows ks x h =
      let r = in_rows (units_row ks) (range_with_len 1 n) x h in
      let w = in_numbers n 1 r.0 r.1 in
      let high = w.1 in
      let q = of_row ks r.0 x r.2 in
      (r.0, q.0, w.0, omega (arith, high), q.1, q.2)

  pub in_all_rows : (ks : List ℕ) (i k : ℕ) → 1 ≤ i → i ≤ n → In k ks → IsIn (block_at acts i k) (flat_map (units_row ks) (range_with_len 1 n))
  in_all_rows ks i k from to h = among_rows (units_row ks) (range_with_len 1 n) i (block_at acts i k) (one_of_numbers n 1 i from (omega (arith, to))) (in_row ks i k h)

  -- by iterations and units
  pub row_before : (ks : List ℕ) (i k j : ℕ) → IsRising ks → In k ks → In j ks → k < j → StandsBefore (block_at acts i k) (block_at acts i j) (units_row ks i)
  row_before [] i k j rising h g less = absurd h
  row_before (z ∷ ks) i k j rising (inl e) (inl f) less = absurd (omega (arith, e, f, less))
  row_before (z ∷ ks) i k j rising (inl e) (inr g) less = inl (ap (block_at acts i) e, in_row ks i j g)
  row_before (z ∷ ks) i k j rising (inr h) (inl f) less = (let low = rising.0 k h in absurd (omega (arith, low, f, less)))
  row_before (z ∷ ks) i k j rising (inr h) (inr g) less = inr (row_before ks i k j rising.1 h g less)

  row_rises : (ks : List ℕ) (i : ℕ) (x y : Block) → IsRising ks → StandsBefore x y (units_row ks i) → (x.outer ≡ i) × (y.outer ≡ i) × (x.inner < y.inner)
  row_rises [] i x y rising b = absurd b
  row_rises (z ∷ ks) i x y rising (inl p) =
      let q = of_row ks i y p.1 in
      let less = rising.0 q.0 q.1 in
      let first : x.inner ≡ z = ap (λ (r : Block). r.inner) p.0 in
      let second : y.inner ≡ q.0 = ap (λ (r : Block). r.inner) q.2 in
      (ap (λ (r : Block). r.outer) p.0, ap (λ (r : Block). r.outer) q.2, omega (arith, less, first, second))
  row_rises (z ∷ ks) i x y rising (inr b) = row_rises ks i x y rising.1 b

  pub rows_rise : (ks : List ℕ) → IsRising ks → IsByRows (flat_map (units_row ks) (range_with_len 1 n))
  rows_rise ks rising x y before = elim (before_in_rows (units_row ks) n 1 x y before) [
    | inl r ↦ (let q = row_rises ks r.row x y rising r.before in inr (q.0 ∙ sym q.1, q.2))
    | inr r ↦ (
        let f = of_row ks r.one x r.first in
        let g = of_row ks r.other y r.second in
        let less = r.less in
        let first : x.outer ≡ r.one = ap (λ (z : Block). z.outer) f.2 in
        let second : y.outer ≡ r.other = ap (λ (z : Block). z.outer) g.2 in
        inl (omega (arith, less, first, second))
        )
  ]

  -- a block of the new order
  of_new : (found : List (List ℕ)) (x : Block) → IsIn x (new_blocks found) → (i k : ℕ) × (1 ≤ i) × (i ≤ n) × In k (flat found) × (x ≡ block_at acts i k)
  of_new [] x h = absurd h
  of_new (block ∷ found) x h = elim (in_parts x (flat_map (units_row block) (range_with_len 1 n)) (new_blocks found) h) [
    | inl j ↦ (let r = of_rows block x j in (r.0, r.1, r.2, r.3, front r.1 block r.4, r.5))
    | inr j ↦ (let r = of_new found x j in (r.0, r.1, r.2, r.3, back r.1 block r.4, r.5))
  ]
    where
      front : (k : ℕ) (ks : List ℕ) → In k ks → In k (ks ++ flat found)
      front k [] i = absurd i
      front k (z ∷ ks) (inl e) = inl e
      front k (z ∷ ks) (inr i) = inr (front k ks i)

      back : (k : ℕ) (ks : List ℕ) → In k (flat found) → In k (ks ++ flat found)
      back k [] i = i
      back k (z ∷ ks) i = inr (back k ks i)

  in_new : (found : List (List ℕ)) (i k b : ℕ) → 1 ≤ i → i ≤ n → In k (slice_index_or found b []) → IsIn (block_at acts i k) (new_blocks found)
  in_new [] i k b from to h = absurd h
  in_new (block ∷ found) i k zero from to h = in_left (block_at acts i k) (flat_map (units_row block) (range_with_len 1 n)) (new_blocks found) (in_all_rows block i k from to h)
  in_new (block ∷ found) i k (suc b) from to h = in_right (block_at acts i k) (flat_map (units_row block) (range_with_len 1 n)) (new_blocks found) (in_new found i k b from to h)

  same_block : (x y : Block) → x ≡ y → x.inner ≡ y.inner
  same_block x y e = ap (λ (z : Block). z.inner) e

  new_once : (found : List (List ℕ)) → AreApart found → AreRising found → EachOnce (new_blocks found)
  new_once [] apart rising x before = absurd before
  new_once (block ∷ found) apart rising x before = elim (before_parts x x (flat_map (units_row block) (range_with_len 1 n)) (new_blocks found) before) [
    | inl b ↦ elim (rows_rise block rising.0 x x b) [ inl less ↦ absurd (omega (arith, less)) | inr p ↦ (let less = p.1 in absurd (omega (arith, less))) ]
    | inr b ↦ elim b [
      | inl p ↦ (
          let f = of_rows block x p.0 in
          let g = of_new found x p.1 in
          absurd (apart.0 f.1 f.4 (subst (λ (k : ℕ). In k (flat found)) (sym (same_block x (block_at acts g.0 g.1) g.5) ∙ same_block x (block_at acts f.0 f.1) f.5) g.4))
          )
      | inr c ↦ new_once found apart.1 rising.1 x c
    ]
  ]

  -- in the new order the one stands before the other, where its block comes first, or in one block its iteration, or in one iteration its unit
  earlier_block : (found : List (List ℕ)) (i k b j h c : ℕ) → 1 ≤ i → i ≤ n → 1 ≤ j → j ≤ n → In k (slice_index_or found b []) → In h (slice_index_or found c []) → b < c → StandsBefore (block_at acts i k) (block_at acts j h) (new_blocks found)
  earlier_block [] i k b j h c from to low high p q less = absurd p
  earlier_block (block ∷ found) i k zero j h zero from to low high p q less = absurd (omega (arith, less))
  earlier_block (block ∷ found) i k zero j h (suc c) from to low high p q less = before_across (block_at acts i k) (block_at acts j h) (flat_map (units_row block) (range_with_len 1 n)) (new_blocks found) (in_all_rows block i k from to p) (in_new found j h c low high q)
  earlier_block (block ∷ found) i k (suc b) j h zero from to low high p q less = absurd (omega (arith, less))
  earlier_block (block ∷ found) i k (suc b) j h (suc c) from to low high p q less = before_right (block_at acts i k) (block_at acts j h) (flat_map (units_row block) (range_with_len 1 n)) (new_blocks found) (earlier_block found i k b j h c from to low high p q (omega (arith, less)))

  one_block : (found : List (List ℕ)) → AreRising found → (i k j h b : ℕ) → 1 ≤ i → i ≤ n → 1 ≤ j → j ≤ n → In k (slice_index_or found b []) → In h (slice_index_or found b []) → (i < j) ⊎ ((i ≡ j) × (k < h)) → StandsBefore (block_at acts i k) (block_at acts j h) (new_blocks found)
  one_block [] rising i k j h b from to low high p q order = absurd p
  one_block (block ∷ found) rising i k j h zero from to low high p q (inl less) =
      before_left (block_at acts i k) (block_at acts j h) (flat_map (units_row block) (range_with_len 1 n)) (new_blocks found)
      (before_by_rows (units_row block) 1 n i j (block_at acts i k) (block_at acts j h) from less (omega (arith, high)) (in_row block i k p) (in_row block j h q))
  one_block (block ∷ found) rising i k j h zero from to low high p q (inr same) =
      before_left (block_at acts i k) (block_at acts j h) (flat_map (units_row block) (range_with_len 1 n)) (new_blocks found)
      (before_in_row (units_row block) 1 n i (block_at acts i k) (block_at acts j h) from (omega (arith, to)) (subst (λ (r : ℕ). StandsBefore (block_at acts i k) (block_at acts r h) (units_row block i)) same.0 (row_before block i k h rising.0 p q same.1)))
  one_block (block ∷ found) rising i k j h (suc b) from to low high p q order = before_right (block_at acts i k) (block_at acts j h) (flat_map (units_row block) (range_with_len 1 n)) (new_blocks found) (one_block found rising.1 i k j h b from to low high p q order)

  module _ (found : List (List ℕ)) (apart : AreApart found) (rising : AreRising found) (all_rise : IsRising (range_with_len 0 m)) (placed : (k : ℕ) → k < m → In k (flat found)) (below : (k : ℕ) → In k (flat found) → k < m) (idle : Cell → Bool)
      (quiet : (i k j h b c : ℕ) → 1 ≤ i → i ≤ n → 1 ≤ j → j ≤ n → k < m → h < m → (i < j) ⊎ ((i ≡ j) × (k < h)) → In k (slice_index_or found b []) → In h (slice_index_or found c []) → c < b → blocks_conflict_outside idle (acts i k) (acts j h) ≡ false) where
    number_below : (k : ℕ) → In k (range_with_len 0 m) → k < m
    number_below k i = (let r = in_numbers m 0 k (is_in k (range_with_len 0 m) i) in let high = r.1 in omega (arith, high))

    below_number : (k : ℕ) → k < m → In k (range_with_len 0 m)
    below_number k less = in_it k (range_with_len 0 m) (one_of_numbers m 0 k (omega arith) (omega (arith, less)))

    by_rows : IsByRows old_blocks
    by_rows = rows_rise (range_with_len 0 m) all_rise

    reordered : IsReordered old_blocks (new_blocks found)
    reordered = record {
      once = new_once found apart rising;
      same = record {
        none_lost = λ x h.
            let r = of_rows (range_with_len 0 m) x h in
            let at = index_of r.1 found (placed r.1 (number_below r.1 r.4)) in
            subst (λ (z : Block). IsIn z (new_blocks found)) (sym r.5) (in_new found r.0 r.1 at.0 r.2 r.3 at.1);
        none_added = λ x h.
            let r = of_new found x h in
            subst (λ (z : Block). IsIn z old_blocks) (sym r.5) (in_all_rows (range_with_len 0 m) r.0 r.1 r.2 r.3 (below_number r.1 (below r.1 r.4)));
      };
    }

    kept : KeepsOrder (block_conflict idle) old_blocks (new_blocks found)
    kept x y before clash =
        let f = of_rows (range_with_len 0 m) x (first_in x y old_blocks before) in
        let g = of_rows (range_with_len 0 m) y (second_in x y old_blocks before) in
        let order : (f.0 < g.0) ⊎ ((f.0 ≡ g.0) × (f.1 < g.1)) = subst (λ (z : Block). (z.outer < g.0) ⊎ ((z.outer ≡ g.0) × (z.inner < g.1))) f.5 (subst (λ (z : Block). (x.outer < z.outer) ⊎ ((x.outer ≡ z.outer) × (x.inner < z.inner))) g.5 (by_rows x y before)) in
        let one = index_of f.1 found (placed f.1 (number_below f.1 f.4)) in
        let other = index_of g.1 found (placed g.1 (number_below g.1 g.4)) in
        subst (λ (z : Block). StandsBefore z y (new_blocks found)) (sym f.5) (subst (λ (z : Block). StandsBefore (block_at acts f.0 f.1) z (new_blocks found)) (sym g.5)
        (by f.0 f.1 g.0 g.1 one.0 other.0 f.2 f.3 g.2 g.3 (number_below f.1 f.4) (number_below g.1 g.4) order one.1 other.1 (sym (λ i. block_conflict idle (f.5 i) (g.5 i)) ∙ clash)))
      where
        by : (i k j h b c : ℕ) → 1 ≤ i → i ≤ n → 1 ≤ j → j ≤ n → k < m → h < m → (i < j) ⊎ ((i ≡ j) × (k < h)) → In k (slice_index_or found b []) → In h (slice_index_or found c []) → blocks_conflict_outside idle (acts i k) (acts j h) ≡ true → StandsBefore (block_at acts i k) (block_at acts j h) (new_blocks found)
        by i k j h b c from to low high inside within order p q conflicting = elim (cases_lt b c) [
          | inl less ↦ earlier_block found i k b j h c from to low high p q less
          | inr past ↦ elim (cases_lt c b) [
            | inl back ↦ absurd (both_ways (blocks_conflict_outside idle (acts i k) (acts j h)) (quiet i k j h b c from to low high inside within order p q back) conflicting)
            | inr same ↦ (let is : c ≡ b = omega (arith, past, same) in one_block found rising i k j h b from to low high p (subst (λ (r : ℕ). In h (slice_index_or found r [])) is q) order)
          ]
        ]

    pub units_ordered : EachOnce old_blocks × IsReordered old_blocks (new_blocks found) × KeepsOrder (block_conflict idle) old_blocks (new_blocks found)
    units_ordered = (rows_once old_blocks by_rows, reordered, kept)
