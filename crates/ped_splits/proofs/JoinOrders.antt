-- Iterations of two DO loops, one behind the other, and of the one in which each iteration has both bodies: what conflicts stays in order where no later iteration of the first one conflicts with an earlier one of the second.
use Rattle.std.proofs.Common.{Bool, List, [], ap, arith, false, inl, inr, refl, subst, sym, true, ℕ, ◌++◌, ◌<◌, ◌∙◌, ◌∷◌, ◌≡◌, ◌≤◌, ◌⊎◌}
use Rattle.std.proofs.lemmas.Bool.{both_ways, cases_lt}
use Rattle.std.specs.List.{flat_map, range_with_len}
use Rattle.ped_rules.specs.ped_laws.proofs.ActLaws.Lists.{before_parts, first_in, in_left, in_parts, in_right, second_in}
use Rattle.ped_rules.specs.ped_laws.proofs.ActLaws.Reorderings.{rows_once}
use Rattle.ped_rules.specs.ped_laws.specs.Acts.Conflicts.{blocks_conflict_outside}
use Rattle.ped_rules.specs.ped_laws.specs.Acts.Grids.{block_at}
use Rattle.ped_rules.specs.ped_laws.specs.Acts.Orders.{Block, EachOnce, IsByRows, IsIn, IsReordered, KeepsOrder, StandsBefore, block_conflict}
use Rattle.ped_rules.specs.ped_store.specs.Acts.{Act}
use Rattle.ped_rules.specs.ped_store.specs.Cells.{Cell}
use Rattle.ped_splits.proofs.PiBlockLaws.{In}
use Rattle.ped_splits.proofs.BlockPlaces.{IsRising}
use Rattle.ped_splits.proofs.SplitOrders.{before_by_rows, before_in_row, in_all_rows, in_row, of_rows, row_before, rows_rise, units_row}

later_inner : (x y : Block) → (x.outer < y.outer) ⊎ ((x.outer ≡ y.outer) × (x.inner < y.inner)) → x.inner ≡ y.inner → x.outer < y.outer
later_inner x y (inl less) same = less
later_inner x y (inr p) same = let less = p.1 in absurd (omega (arith, less, same))

not_itself : (x : Block) → (x.outer < x.outer) ⊎ ((x.outer ≡ x.outer) × (x.inner < x.inner)) → ⊥
not_itself x (inl less) = omega (arith, less)
not_itself x (inr p) = let less = p.1 in omega (arith, less)

one_is : (k z : ℕ) → In k (z ∷ []) → k ≡ z
one_is k z (inl e) = e
one_is k z (inr none) = absurd none

one_rises : (z : ℕ) → IsRising (z ∷ [])
one_rises z = ((λ k i. absurd i), tt)

both_rise : IsRising (0 ∷ (1 ∷ []))
both_rise = ((λ k i. (let e = one_is k 1 i in omega (arith, e))), one_rises 1)

module _ (n : ℕ) (acts : ℕ → ℕ → List Act) (idle : Cell → Bool) (quiet : (i j : ℕ) → 1 ≤ j → j < i → i ≤ n → blocks_conflict_outside idle (acts i 0) (acts j 1) ≡ false) where
  abbrev row : List ℕ → ℕ → List Block
  row ks i = units_row n 2 acts ks i

  abbrev pub firsts : List Block
  firsts = flat_map (units_row n 2 acts (0 ∷ [])) (range_with_len 1 n)

  abbrev pub seconds : List Block
  seconds = flat_map (units_row n 2 acts (1 ∷ [])) (range_with_len 1 n)

  abbrev pub together : List Block
  together = flat_map (units_row n 2 acts (0 ∷ (1 ∷ []))) (range_with_len 1 n)

  first_among : (k : ℕ) → In k (0 ∷ []) → In k (0 ∷ (1 ∷ []))
  first_among k i = inl (one_is k 0 i)

  second_among : (k : ℕ) → In k (1 ∷ []) → In k (0 ∷ (1 ∷ []))
  second_among k i = inr (inl (one_is k 1 i))

  by_rows : IsByRows together
  by_rows = rows_rise n 2 acts (0 ∷ (1 ∷ [])) both_rise

  once : EachOnce (firsts ++ seconds)
  once x before = elim (before_parts x x firsts seconds before) [
    | inl b ↦ not_itself x (rows_rise n 2 acts (0 ∷ []) (one_rises 0) x x b)
    | inr b ↦ elim b [
      | inl p ↦ (
          let f = of_rows n 2 acts (0 ∷ []) x p.0 in
          let g = of_rows n 2 acts (1 ∷ []) x p.1 in
          let one : x.inner ≡ f.1 = ap (λ (z : Block). z.inner) f.5 in
          let two : x.inner ≡ g.1 = ap (λ (z : Block). z.inner) g.5 in
          let is = one_is f.1 0 f.4 in
          let other = one_is g.1 1 g.4 in
          absurd (omega (arith, one, two, is, other))
          )
      | inr c ↦ not_itself x (rows_rise n 2 acts (1 ∷ []) (one_rises 1) x x c)
    ]
  ]

  -- in the one DO the one stands before the other, where its iteration comes first, or in one iteration its body
  forward : (i k j h : ℕ) → 1 ≤ i → i ≤ n → 1 ≤ j → j ≤ n → In k (0 ∷ (1 ∷ [])) → In h (0 ∷ (1 ∷ [])) → (i < j) ⊎ ((i ≡ j) × (k < h)) → StandsBefore (block_at acts i k) (block_at acts j h) together
  forward i k j h from to low high p q (inl less) =
      before_by_rows (row (0 ∷ (1 ∷ []))) 1 n i j (block_at acts i k) (block_at acts j h) from less (omega (arith, high)) (in_row n 2 acts (0 ∷ (1 ∷ [])) i k p) (in_row n 2 acts (0 ∷ (1 ∷ [])) j h q)
  forward i k j h from to low high p q (inr same) =
      before_in_row (row (0 ∷ (1 ∷ []))) 1 n i (block_at acts i k) (block_at acts j h) from (omega (arith, to))
      (subst (λ (r : ℕ). StandsBefore (block_at acts i k) (block_at acts r h) (row (0 ∷ (1 ∷ [])) i)) same.0 (row_before n 2 acts (0 ∷ (1 ∷ [])) i k h both_rise p q same.1))

  reordered : IsReordered (firsts ++ seconds) together
  reordered = record {
    once = rows_once together by_rows;
    same = record {
      none_lost = λ x h. elim (in_parts x firsts seconds h) [
        | inl i ↦ (let r = of_rows n 2 acts (0 ∷ []) x i in subst (λ (z : Block). IsIn z together) (sym r.5) (in_all_rows n 2 acts (0 ∷ (1 ∷ [])) r.0 r.1 r.2 r.3 (first_among r.1 r.4)))
        | inr i ↦ (let r = of_rows n 2 acts (1 ∷ []) x i in subst (λ (z : Block). IsIn z together) (sym r.5) (in_all_rows n 2 acts (0 ∷ (1 ∷ [])) r.0 r.1 r.2 r.3 (second_among r.1 r.4)))
      ];
      none_added = λ x h. (let r = of_rows n 2 acts (0 ∷ (1 ∷ [])) x h in elim r.4 [
        | inl e ↦ subst (λ (z : Block). IsIn z (firsts ++ seconds)) (sym r.5) (in_left (block_at acts r.0 r.1) firsts seconds (in_all_rows n 2 acts (0 ∷ []) r.0 r.1 r.2 r.3 (inl e)))
        | inr i ↦ subst (λ (z : Block). IsIn z (firsts ++ seconds)) (sym r.5) (in_right (block_at acts r.0 r.1) firsts seconds (in_all_rows n 2 acts (1 ∷ []) r.0 r.1 r.2 r.3 i))
      ]);
    };
  }

  -- blocks of one DO keep their order
  one_kept : (z : ℕ) → ((k : ℕ) → In k (z ∷ []) → In k (0 ∷ (1 ∷ []))) → (x y : Block) → StandsBefore x y (flat_map (units_row n 2 acts (z ∷ [])) (range_with_len 1 n)) → StandsBefore x y together
  one_kept z among x y b =
      let there : List Block = flat_map (units_row n 2 acts (z ∷ [])) (range_with_len 1 n) in
      let f = of_rows n 2 acts (z ∷ []) x (first_in x y there b) in
      let g = of_rows n 2 acts (z ∷ []) y (second_in x y there b) in
      let less : x.outer < y.outer = later_inner x y (rows_rise n 2 acts (z ∷ []) (one_rises z) x y b) (ap (λ (w : Block). w.inner) f.5 ∙ (one_is f.1 z f.4 ∙ sym (one_is g.1 z g.4)) ∙ sym (ap (λ (w : Block). w.inner) g.5)) in
      let one : x.outer ≡ f.0 = ap (λ (w : Block). w.outer) f.5 in
      let two : y.outer ≡ g.0 = ap (λ (w : Block). w.outer) g.5 in
      subst (λ (w : Block). StandsBefore w y together) (sym f.5) (subst (λ (w : Block). StandsBefore (block_at acts f.0 f.1) w together) (sym g.5)
      (forward f.0 f.1 g.0 g.1 f.2 f.3 g.2 g.3 (among f.1 f.4) (among g.1 g.4) (inl (omega (arith, less, one, two)))))

  across : (i j : ℕ) → 1 ≤ i → i ≤ n → 1 ≤ j → j ≤ n → blocks_conflict_outside idle (acts i 0) (acts j 1) ≡ true → StandsBefore (block_at acts i 0) (block_at acts j 1) together
  across i j from to low high clash = elim (cases_lt j i) [
    | inl back ↦ absurd (both_ways (blocks_conflict_outside idle (acts i 0) (acts j 1)) (quiet i j low back to) clash)
    | inr on ↦ elim (cases_lt i j) [
      | inl less ↦ forward i 0 j 1 from to low high (inl refl) (inr (inl refl)) (inl less)
      | inr past ↦ forward i 0 j 1 from to low high (inl refl) (inr (inl refl)) (inr (omega (arith, on, past), omega arith))
    ]
  ]

  kept : KeepsOrder (block_conflict idle) (firsts ++ seconds) together
  kept x y before clash = elim (before_parts x y firsts seconds before) [
    | inl b ↦ one_kept 0 first_among x y b
    | inr b ↦ elim b [
      | inl p ↦ (
          let f = of_rows n 2 acts (0 ∷ []) x p.0 in
          let g = of_rows n 2 acts (1 ∷ []) y p.1 in
          let first : x ≡ block_at acts f.0 0 = f.5 ∙ ap (block_at acts f.0) (one_is f.1 0 f.4) in
          let second : y ≡ block_at acts g.0 1 = g.5 ∙ ap (block_at acts g.0) (one_is g.1 1 g.4) in
          subst (λ (w : Block). StandsBefore w y together) (sym first) (subst (λ (w : Block). StandsBefore (block_at acts f.0 0) w together) (sym second)
          (across f.0 g.0 f.2 f.3 g.2 g.3 (sym (λ i. block_conflict idle (first i) (second i)) ∙ clash)))
          )
      | inr c ↦ one_kept 1 second_among x y c
    ]
  ]

  pub joined_ordered : EachOnce (firsts ++ seconds) × IsReordered (firsts ++ seconds) together × KeepsOrder (block_conflict idle) (firsts ++ seconds) together
  joined_ordered = (once, reordered, kept)
