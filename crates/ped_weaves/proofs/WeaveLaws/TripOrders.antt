-- The trips of a loop in another order: each has the number of its old iteration and that of its new one.
use Rattle.std.proofs.Common.{◌≡◌, ℕ, zero, suc, ◌+◌, ◌<◌, ◌≤◌, List, map, Bool, false, sym, ap, subst, ◌∙◌, inl, inr, arith}
use Rattle.std.specs.List.{range_with_len}
use Rattle.std.proofs.Math.Nat.{eq-or-lt_of_le}
use Rattle.ped_laws.specs.ped_store.specs.Cells.{Cell}
use Rattle.ped_laws.specs.ped_store.specs.Acts.{Act}
use Rattle.ped_laws.specs.Acts.Conflicts.{blocks_conflict_outside}
use Rattle.ped_laws.specs.Acts.Orders.{IsIn, StandsBefore, EachOnce, IsReordered, KeepsOrder, Block, block_conflict, IsByRows, IsByColumns, NoneCrosses}
use Rattle.ped_laws.specs.Acts.Grids.{block_at}
use Rattle.ped_laws.proofs.ActLaws.Reorderings.{rows_once, column_order}
use Rattle.ped_weaves.specs.Weaves.{AreInverse, old_trips, new_trips}

-- items of a list that a function makes of some numbers
item_of : (f : ℕ → Block) (n a : ℕ) (x : Block) → IsIn x (map f (range_with_len a n)) → (k : ℕ) × (a ≤ k) × (k < a + n) × (x ≡ f k)
item_of f zero a x i = absurd i
item_of f (suc n) a x (inl e) = (a, omega arith, omega arith, e)
item_of f (suc n) a x (inr i) = let r = item_of f n (a + 1) x i in (r.0, omega (arith, r.1), omega (arith, r.2), r.3)

item_in : (f : ℕ → Block) (n a k : ℕ) → a ≤ k → k < a + n → IsIn (f k) (map f (range_with_len a n))
item_in f zero a k h l = absurd (omega (arith, h, l))
item_in f (suc n) a k h l = elim (eq-or-lt_of_le h) [
  | inl e ↦ inl (ap f (sym e))
  | inr m ↦ inr (item_in f n (a + 1) k (omega (arith, m)) (omega (arith, l)))
]

items_of : (f : ℕ → Block) (n a : ℕ) (x y : Block) → StandsBefore x y (map f (range_with_len a n)) → (k l : ℕ) × (a ≤ k) × (k < l) × (l < a + n) × (x ≡ f k) × (y ≡ f l)
items_of f zero a x y b = absurd b
items_of f (suc n) a x y (inl p) = let r = item_of f n (a + 1) y p.1 in (a, r.0, omega arith, omega (arith, r.1), omega (arith, r.2), p.0, r.3)
items_of f (suc n) a x y (inr b) = let r = items_of f n (a + 1) x y b in (r.0, r.1, omega (arith, r.2), r.3, omega (arith, r.4), r.5, r.6)

module _ (acts : ℕ → ℕ → List Act) (n : ℕ) (to of : ℕ → ℕ) (inverse : AreInverse n to of) where
  old_rows : IsByRows (old_trips acts n to)
  old_rows x y b =
      let r = items_of (λ k. block_at acts k (to k)) n 1 x y b in
      inl (subst (λ (z : Block). z.outer < y.outer) (sym r.5) (subst (λ (z : Block). r.0 < z.outer) (sym r.6) r.3))

  new_columns : IsByColumns (new_trips acts n of)
  new_columns x y b =
      let r = items_of (λ j. block_at acts (of j) j) n 1 x y b in
      inl (subst (λ (z : Block). z.inner < y.inner) (sym r.5) (subst (λ (z : Block). r.0 < z.inner) (sym r.6) r.3))

  forth : (x : Block) → IsIn x (old_trips acts n to) → IsIn x (new_trips acts n of)
  forth x i =
      let r = item_of (λ k. block_at acts k (to k)) n 1 x i in
      let p = inverse.new r.0 r.1 (omega (arith, r.2)) in
      subst (λ z. IsIn z (new_trips acts n of)) (ap (λ z. block_at acts z (to r.0)) p.2 ∙ sym r.3) (item_in (λ j. block_at acts (of j) j) n 1 (to r.0) p.0 (omega (arith, p.1)))

  back : (x : Block) → IsIn x (new_trips acts n of) → IsIn x (old_trips acts n to)
  back x i =
      let r = item_of (λ j. block_at acts (of j) j) n 1 x i in
      let p = inverse.old r.0 r.1 (omega (arith, r.2)) in
      subst (λ z. IsIn z (old_trips acts n to)) (ap (block_at acts (of r.0)) p.2 ∙ sym r.3) (item_in (λ k. block_at acts k (to k)) n 1 (of r.0) p.0 (omega (arith, p.1)))

  none_crosses : (idle : Cell → Bool) → ((k l : ℕ) → 1 ≤ k → k < l → l ≤ n → to l < to k → blocks_conflict_outside idle (acts k (to k)) (acts l (to l)) ≡ false) → NoneCrosses idle (old_trips acts n to)
  none_crosses idle h x y i j o m =
      let p = item_of (λ k. block_at acts k (to k)) n 1 x i in
      let q = item_of (λ k. block_at acts k (to k)) n 1 y j in
      let a : p.0 < q.0 = subst (λ (z : Block). p.0 < z.outer) q.3 (subst (λ (z : Block). z.outer < y.outer) p.3 o) in
      let b : to q.0 < to p.0 = subst (λ (z : Block). to q.0 < z.inner) p.3 (subst (λ (z : Block). z.inner < x.inner) q.3 m) in
      ap (λ z. block_conflict idle z y) p.3 ∙ ap (block_conflict idle (block_at acts p.0 (to p.0))) q.3 ∙ h p.0 q.0 p.1 a (omega (arith, q.2)) b

pub trips_stand : (idle : Cell → Bool) (acts : ℕ → ℕ → List Act) (n : ℕ) (to of : ℕ → ℕ) → AreInverse n to of → ((k l : ℕ) → 1 ≤ k → k < l → l ≤ n → to l < to k → blocks_conflict_outside idle (acts k (to k)) (acts l (to l)) ≡ false)
    → EachOnce (old_trips acts n to) × IsReordered (old_trips acts n to) (new_trips acts n of) × KeepsOrder (block_conflict idle) (old_trips acts n to) (new_trips acts n of)
trips_stand idle acts n to of inverse h =
    let rows = old_rows acts n to of inverse in
    let kept = column_order idle (old_trips acts n to) (new_trips acts n of) rows (new_columns acts n to of inverse) (record { none_lost = forth acts n to of inverse; none_added = back acts n to of inverse }) (none_crosses acts n to of inverse idle h) in
    (rows_once (old_trips acts n to) rows, kept.0, kept.1)
