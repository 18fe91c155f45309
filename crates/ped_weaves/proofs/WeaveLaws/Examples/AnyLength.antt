-- A loop with any number of trips is reversed, where no two trips conflict on cells that count. Trip j of the new loop does what trip n+1-j did, on renamed cells, and the ends of iterations are controls.
use Rattle.std.proofs.Common.{◌≡◌, ℕ, ◌+◌, ◌-◌, ◌<◌, ◌≤◌, List, [], ◌∷◌, ◌++◌, Bool, false, sym, subst, ◌∙◌, arith}
use Rattle.std.specs.List.{flat_map, range_with_len}
use Rattle.std.proofs.lemmas.List.Concat.{flat_map_single}
use Rattle.ped_laws.specs.ped_store.specs.Cells.{Cell}
use Rattle.ped_laws.specs.ped_store.specs.Acts.{Act}
use Rattle.ped_laws.specs.Acts.Conflicts.{blocks_conflict_outside}
use Rattle.ped_laws.specs.Acts.Orders.{IsReordered, KeepsOrder, block_conflict}
use Rattle.ped_laws.specs.Acts.Grids.{block_at}
use Rattle.ped_weaves.specs.Weaves.{Knot, block, control, knotted, blocks_in, AreInverse, old_trips, new_trips}
use Rattle.ped_weaves.proofs.WeaveLaws.KnotRows.{knotted_rows, blocks_rows}
use Rattle.ped_weaves.proofs.WeaveLaws.TripOrders.{trips_stand}

-- numbers counted from the last, both ways
abbrev turned : ℕ → ℕ → ℕ
turned n k = n + 1 - k

turned_back : (n : ℕ) → AreInverse n (turned n) (turned n)
turned_back n = record {
  new = λ k a b. (omega (arith, a, b), omega (arith, a, b), omega (arith, a, b));
  old = λ k a b. (omega (arith, a, b), omega (arith, a, b), omega (arith, a, b));
}

-- each trip with its end, in the old loop and in the new one
abbrev old_knots : (ℕ → List Act) → ℕ → List Knot
old_knots ends n = flat_map (λ k. block k (turned n k) ∷ control (ends k) ∷ []) (range_with_len 1 n)

abbrev new_knots : (ℕ → List Act) → ℕ → List Knot
new_knots ends n = flat_map (λ j. block (turned n j) j ∷ control (ends j) ∷ []) (range_with_len 1 n)

-- these are the acts of the loops
pub old_acts_are : (trip ends : ℕ → List Act) (n : ℕ) → knotted (λ k j. trip k) (old_knots ends n) ≡ flat_map (λ k. trip k ++ (ends k ++ [])) (range_with_len 1 n)
old_acts_are trip ends n = knotted_rows (λ k j. trip k) (λ k. block k (turned n k) ∷ control (ends k) ∷ []) (range_with_len 1 n)

pub new_acts_are : (fresh ends : ℕ → List Act) (n : ℕ) → knotted (λ k j. fresh j) (new_knots ends n) ≡ flat_map (λ j. fresh j ++ (ends j ++ [])) (range_with_len 1 n)
new_acts_are fresh ends n = knotted_rows (λ k j. fresh j) (λ j. block (turned n j) j ∷ control (ends j) ∷ []) (range_with_len 1 n)

-- and their blocks are the trips
old_blocks_are : (acts : ℕ → ℕ → List Act) (ends : ℕ → List Act) (n : ℕ) → blocks_in acts (old_knots ends n) ≡ old_trips acts n (turned n)
old_blocks_are acts ends n = blocks_rows acts (λ k. block k (turned n k) ∷ control (ends k) ∷ []) (range_with_len 1 n) ∙ flat_map_single (λ k. block_at acts k (turned n k)) (range_with_len 1 n)

new_blocks_are : (acts : ℕ → ℕ → List Act) (ends : ℕ → List Act) (n : ℕ) → blocks_in acts (new_knots ends n) ≡ new_trips acts n (turned n)
new_blocks_are acts ends n = blocks_rows acts (λ j. block (turned n j) j ∷ control (ends j) ∷ []) (range_with_len 1 n) ∙ flat_map_single (λ j. block_at acts (turned n j) j) (range_with_len 1 n)

-- so the order of blocks is kept, whatever the ends are
pub order_is_kept : (idle : Cell → Bool) (trip ends others : ℕ → List Act) (n : ℕ) → ((k l : ℕ) → k < l → l ≤ n → blocks_conflict_outside idle (trip k) (trip l) ≡ false)
    → IsReordered (blocks_in (λ k j. trip k) (old_knots ends n)) (blocks_in (λ k j. trip k) (new_knots others n)) × KeepsOrder (block_conflict idle) (blocks_in (λ k j. trip k) (old_knots ends n)) (blocks_in (λ k j. trip k) (new_knots others n))
order_is_kept idle trip ends others n h =
    let r = trips_stand idle (λ k j. trip k) n (turned n) (turned n) (turned_back n) (λ k l a b c d. h k l b c) in
    subst (λ bs. IsReordered bs (blocks_in (λ k j. trip k) (new_knots others n)) × KeepsOrder (block_conflict idle) bs (blocks_in (λ k j. trip k) (new_knots others n))) (sym (old_blocks_are (λ k j. trip k) ends n))
    (subst (λ bs. IsReordered (old_trips (λ k j. trip k) n (turned n)) bs × KeepsOrder (block_conflict idle) (old_trips (λ k j. trip k) n (turned n)) bs) (sym (new_blocks_are (λ k j. trip k) others n)) (r.1, r.2))
