-- The old DO and the new ones as lists that are woven of what units do in iterations, and of the entries and ends of the DO loops.
use Rattle.std.proofs.Common.{◌≡◌, ℕ, zero, suc, ◌+◌, ◌<◌, ◌≤◌, List, [], ◌∷◌, ◌++◌, false, refl, sym, ap, ◌∙◌, append-nil, arith}
use Rattle.std.specs.List.{flat_map, range_with_len}
use Rattle.ped_rules.specs.ped_bodies.proofs.BodyLaws.TripLists.{close_in_order}
use Rattle.ped_rules.specs.ped_bodies.specs.Trips.{loop_acts, loop_entry, trip_end}
use Rattle.ped_rules.specs.ped_laws.specs.Acts.Grids.{block_at}
use Rattle.ped_rules.specs.ped_laws.specs.Acts.Orders.{Block}
use Rattle.ped_rules.specs.ped_eval.specs.Evaluation.{Seen}
use Rattle.ped_rules.specs.ped_eval.specs.Loops.{Entered}
use Rattle.ped_rules.specs.ped_eval.specs.Scopes.{Scope}
use Rattle.ped_rules.specs.ped_store.specs.Acts.{Act, Place}
use Rattle.ped_rules.specs.ped_weaves.proofs.WeaveLaws.KnotRows.{blocks_append, blocks_rows, knotted_append, knotted_rows}
use Rattle.ped_rules.specs.ped_weaves.specs.Weaves.{Knot, block, blocks_in, control, knotted}
use Rattle.ped_splits.proofs.SplitOrders.{units_row}

-- rows that are the same, number by number
pub same_rows : {X : Type 0} (f g : ℕ → List X) (a n : ℕ) → ((i : ℕ) → a ≤ i → i < a + n → f i ≡ g i) → flat_map f (range_with_len a n) ≡ flat_map g (range_with_len a n)
same_rows f g a zero same = refl
same_rows f g a (suc n) same = λ i. same a (omega arith) (omega arith) i ++ same_rows f g (a + 1) n (λ k from to. same k (omega (arith, from)) (omega (arith, to))) i

-- units in an iteration
abbrev pub unit_knots : List ℕ → ℕ → List Knot
unit_knots ks i = flat_map (λ k. block i k ∷ []) ks

pub knots_acts : (acts : ℕ → ℕ → List Act) (ks : List ℕ) (i : ℕ) → knotted acts (unit_knots ks i) ≡ flat_map (acts i) ks
knots_acts acts [] i = refl
knots_acts acts (k ∷ ks) i = ap (λ (more : List Act). acts i k ++ more) (knots_acts acts ks i)

pub knots_blocks : (n m : ℕ) (acts : ℕ → ℕ → List Act) (ks : List ℕ) (i : ℕ) → blocks_in acts (unit_knots ks i) ≡ units_row n m acts ks i
knots_blocks n m acts [] i = refl
knots_blocks n m acts (k ∷ ks) i = ap (λ (more : List Block). block_at acts i k ∷ more) (knots_blocks n m acts ks i)

module _ (e : Entered) (scope : Scope) (at : Place) where
  -- units in an iteration, and its end
  abbrev pub trip_knots : List ℕ → ℕ → List Knot
  trip_knots ks i = unit_knots ks i ++ control (trip_end e scope at i) ∷ []

  abbrev pub loop_knots : List Seen → List ℕ → List Knot
  loop_knots seen ks = control (loop_entry seen e scope at ∷ []) ∷ flat_map (trip_knots ks) (range_with_len 1 e.count)

  trip_acts : (acts : ℕ → ℕ → List Act) (ks : List ℕ) (i : ℕ) → knotted acts (trip_knots ks i) ≡ flat_map (acts i) ks ++ trip_end e scope at i
  trip_acts acts ks i = knotted_append acts (unit_knots ks i) (control (trip_end e scope at i) ∷ []) ∙ (λ j. knots_acts acts ks i j ++ append-nil (trip_end e scope at i) j)

  pub loop_list : (acts : ℕ → ℕ → List Act) (trip : ℕ → List Act) (seen : List Seen) (ks : List ℕ) → e.head.parallel ≡ false → ((i : ℕ) → 1 ≤ i → i ≤ e.count → trip i ≡ flat_map (acts i) ks) → knotted acts (loop_knots seen ks) ≡ loop_acts seen e scope at trip
  loop_list acts trip seen ks serial same =
      ap (λ (more : List Act). loop_entry seen e scope at ∷ more)
      (knotted_rows acts (trip_knots ks) (range_with_len 1 e.count)
      ∙ same_rows (λ i. knotted acts (trip_knots ks i)) (λ i. trip i ++ trip_end e scope at i) 1 e.count (λ i from to. trip_acts acts ks i ∙ ap (λ (more : List Act). more ++ trip_end e scope at i) (sym (same i from (omega (arith, to)))))
      ∙ sym (append-nil (flat_map (λ i. trip i ++ trip_end e scope at i) (range_with_len 1 e.count)))
      ∙ ap (λ (close : List Act). flat_map (λ i. trip i ++ trip_end e scope at i) (range_with_len 1 e.count) ++ close) (sym (close_in_order e scope at serial)))

  trip_blocks : (m : ℕ) (acts : ℕ → ℕ → List Act) (ks : List ℕ) (i : ℕ) → blocks_in acts (trip_knots ks i) ≡ units_row e.count m acts ks i
  trip_blocks m acts ks i = blocks_append acts (unit_knots ks i) (control (trip_end e scope at i) ∷ []) ∙ append-nil (blocks_in acts (unit_knots ks i)) ∙ knots_blocks e.count m acts ks i

  pub loop_blocks : (m : ℕ) (acts : ℕ → ℕ → List Act) (seen : List Seen) (ks : List ℕ) → blocks_in acts (loop_knots seen ks) ≡ flat_map (units_row e.count m acts ks) (range_with_len 1 e.count)
  loop_blocks m acts seen ks = blocks_rows acts (trip_knots ks) (range_with_len 1 e.count) ∙ same_rows (λ i. blocks_in acts (trip_knots ks i)) (units_row e.count m acts ks) 1 e.count (λ i from to. trip_blocks m acts ks i)
