-- Two loops, one in the other, as a list that is woven of the inner bodies, one for each pair of iterations, and of the entries and the ends of both.
use Rattle.std.proofs.Common.{List, [], ap, append-nil, arith, false, inl, inr, refl, subst, suc, sym, zero, ℕ, ◌++◌, ◌+◌, ◌<◌, ◌∙◌, ◌∷◌, ◌≡◌, ◌≤◌, ◌⊎◌}
use Rattle.std.proofs.Math.Nat.{eq-or-lt_of_le}
use Rattle.std.specs.List.{flat_map, range_with_len}
use Rattle.ped_loop_runs.specs.ped_bodies.proofs.BodyLaws.TripLists.{close_in_order}
use Rattle.ped_loop_runs.specs.ped_bodies.specs.Trips.{loop_acts, loop_entry, trip_end, trips}
use Rattle.ped_loop_runs.specs.ped_laws.proofs.ActLaws.Lists.{before_parts, in_left, in_parts, in_right}
use Rattle.ped_loop_runs.specs.ped_laws.specs.Acts.Grids.{block_at}
use Rattle.ped_loop_runs.specs.ped_laws.specs.Acts.Orders.{Block, IsIn, StandsBefore}
use Rattle.ped_loop_runs.specs.ped_eval.specs.Evaluation.{Seen}
use Rattle.ped_loop_runs.specs.ped_eval.specs.Loops.{Entered}
use Rattle.ped_loop_runs.specs.ped_eval.specs.Scopes.{Scope}
use Rattle.ped_loop_runs.specs.ped_store.specs.Acts.{Act, Place}
use Rattle.ped_loop_runs.specs.ped_weaves.proofs.WeaveLaws.KnotRows.{blocks_append, blocks_rows, knotted_append, knotted_rows}
use Rattle.ped_loop_runs.specs.ped_weaves.specs.Weaves.{Knot, block, blocks_in, control, knotted}

-- items of a list that a function makes of the numbers of a row
pub in_numbers : (m a k : ℕ) → IsIn k (range_with_len a m) → (a ≤ k) × (k < a + m)
in_numbers zero a k i = absurd i
in_numbers (suc m) a k (inl e) = (omega (arith, e), omega (arith, e))
in_numbers (suc m) a k (inr i) = let r = in_numbers m (a + 1) k i in (omega (arith, r.0), omega (arith, r.1))

pub one_of_numbers : (m a k : ℕ) → a ≤ k → k < a + m → IsIn k (range_with_len a m)
one_of_numbers zero a k h less = absurd (omega (arith, h, less))
one_of_numbers (suc m) a k h less = elim (eq-or-lt_of_le h) [
  | inl e ↦ inl (sym e)
  | inr later ↦ inr (one_of_numbers m (a + 1) k (omega (arith, later)) (omega (arith, less)))
]

pub in_rows : {X Y : Type 0} (f : X → List Y) (ns : List X) (y : Y) → IsIn y (flat_map f ns) → (n : X) × IsIn n ns × IsIn y (f n)
in_rows f [] y i = absurd i
in_rows f (n ∷ ns) y i = elim (in_parts y (f n) (flat_map f ns) i) [
  | inl k ↦ (n, inl refl, k)
  | inr k ↦ let r = in_rows f ns y k in (r.0, inr r.1, r.2)
]

pub among_rows : {X Y : Type 0} (f : X → List Y) (ns : List X) (n : X) (y : Y) → IsIn n ns → IsIn y (f n) → IsIn y (flat_map f ns)
among_rows f [] n y i j = absurd i
among_rows f (m ∷ ns) n y (inl e) j = in_left y (f m) (flat_map f ns) (subst (λ z. IsIn y (f z)) e j)
among_rows f (m ∷ ns) n y (inr i) j = in_right y (f m) (flat_map f ns) (among_rows f ns n y i j)

-- two items of rows stand in one row, or the first in an earlier one
pub record InOneRow {Y : Type 0} (f : ℕ → List Y) (a m : ℕ) (x y : Y) : Type 0 where
  pub row : ℕ
  pub from : a ≤ row
  pub to : row < a + m
  pub before : StandsBefore x y (f row)

pub record InTwoRows {Y : Type 0} (f : ℕ → List Y) (a m : ℕ) (x y : Y) : Type 0 where
  pub one : ℕ
  pub other : ℕ
  pub from : a ≤ one
  pub less : one < other
  pub to : other < a + m
  pub first : IsIn x (f one)
  pub second : IsIn y (f other)

pub before_in_rows : {Y : Type 0} (f : ℕ → List Y) (m a : ℕ) (x y : Y) → StandsBefore x y (flat_map f (range_with_len a m)) → InOneRow f a m x y ⊎ InTwoRows f a m x y
before_in_rows f zero a x y b = absurd b
before_in_rows f (suc m) a x y b = elim (before_parts x y (f a) (flat_map f (range_with_len (a + 1) m)) b) [
  | inl k ↦ inl (record { row = a; from = omega arith; to = omega arith; before = k })
  | inr k ↦ elim k [
    | inl both ↦ (
        let r = in_rows f (range_with_len (a + 1) m) y both.1 in
        let w = in_numbers m (a + 1) r.0 r.1 in
        inr (record { one = a; other = r.0; from = omega arith; less = omega (arith, w.0); to = omega (arith, w.1); first = both.0; second = r.2 })
        )
    | inr rest ↦ elim (before_in_rows f m (a + 1) x y rest) [
      | inl r ↦ (let from = r.from in let to = r.to in inl (record { row = r.row; from = omega (arith, from); to = omega (arith, to); before = r.before }))
      | inr r ↦ (let from = r.from in let to = r.to in inr (record { one = r.one; other = r.other; from = omega (arith, from); less = r.less; to = omega (arith, to); first = r.first; second = r.second }))
    ]
  ]
]

module _ (seen : List Seen) (e : Entered) (scope : Scope) (at : Place) (inner_seen : ℕ → List Seen) (inner : ℕ → Entered) (inner_scope : ℕ → Scope) (inner_at : ℕ → Place) (x y : ℕ → ℕ → ℕ) where
  -- iteration j of the inner loop in iteration i of the outer one, with its end
  abbrev pub pair_row : ℕ → ℕ → List Knot
  pair_row i j = block (x i j) (y i j) ∷ control (trip_end (inner i) (inner_scope i) (inner_at i) j) ∷ []

  abbrev pub pair_rows : ℕ → List Knot
  pair_rows i = flat_map (pair_row i) (range_with_len 1 (inner i).count)

  -- the entry of the inner loop, its iterations, and the end of that of the outer one
  abbrev pub nest_row : ℕ → List Knot
  nest_row i = control (loop_entry (inner_seen i) (inner i) (inner_scope i) (inner_at i) ∷ []) ∷ (pair_rows i ++ control (trip_end e scope at i) ∷ [])

  abbrev pub nest_knots : List Knot
  nest_knots = control (loop_entry seen e scope at ∷ []) ∷ flat_map nest_row (range_with_len 1 e.count)

  -- the acts of the two loops
  module _ (acts : ℕ → ℕ → List Act) where
    abbrev pub inner_acts : ℕ → List Act
    inner_acts i = loop_acts (inner_seen i) (inner i) (inner_scope i) (inner_at i) (λ j. acts (x i j) (y i j))

    pairs_are : (i : ℕ) → knotted acts (pair_rows i) ≡ trips (inner i) (inner_scope i) (inner_at i) (λ j. acts (x i j) (y i j)) 1 (inner i).count
    pairs_are i =
        knotted_rows acts (pair_row i) (range_with_len 1 (inner i).count)
        ∙ (λ k. flat_map (λ j. acts (x i j) (y i j) ++ append-nil (trip_end (inner i) (inner_scope i) (inner_at i) j) k) (range_with_len 1 (inner i).count))

    row_is : ((i : ℕ) → (inner i).head.parallel ≡ false) → (i : ℕ) → knotted acts (nest_row i) ≡ inner_acts i ++ trip_end e scope at i
    row_is serial i =
        ap (λ (ls : List Act). loop_entry (inner_seen i) (inner i) (inner_scope i) (inner_at i) ∷ ls)
        (knotted_append acts (pair_rows i) (control (trip_end e scope at i) ∷ [])
        ∙ (λ k. pairs_are i k ++ append-nil (trip_end e scope at i) k)
        ∙ ap (λ (ls : List Act). ls ++ trip_end e scope at i) (sym (append-nil its_trips) ∙ ap (λ (ls : List Act). its_trips ++ ls) (sym (close_in_order (inner i) (inner_scope i) (inner_at i) (serial i)))))
      where
        its_trips : List Act
        its_trips = trips (inner i) (inner_scope i) (inner_at i) (λ j. acts (x i j) (y i j)) 1 (inner i).count

    pub nest_acts : e.head.parallel ≡ false → ((i : ℕ) → (inner i).head.parallel ≡ false) → knotted acts nest_knots ≡ loop_acts seen e scope at inner_acts
    nest_acts serial inner_serial =
        ap (λ (ls : List Act). loop_entry seen e scope at ∷ ls)
        (knotted_rows acts nest_row (range_with_len 1 e.count)
        ∙ (λ k. flat_map (λ i. row_is inner_serial i k) (range_with_len 1 e.count))
        ∙ sym (append-nil (trips e scope at inner_acts 1 e.count))
        ∙ ap (λ (ls : List Act). trips e scope at inner_acts 1 e.count ++ ls) (sym (close_in_order e scope at serial)))

    -- and its blocks
    abbrev pub pair_block : ℕ → ℕ → Block
    pair_block i j = block_at acts (x i j) (y i j)

    abbrev pub blocks_of_row : ℕ → List Block
    blocks_of_row i = flat_map (λ j. pair_block i j ∷ []) (range_with_len 1 (inner i).count)

    pub nest_blocks : blocks_in acts nest_knots ≡ flat_map blocks_of_row (range_with_len 1 e.count)
    nest_blocks = blocks_rows acts nest_row (range_with_len 1 e.count) ∙ (λ k. flat_map (λ i. of_row i k) (range_with_len 1 e.count))
      where
        of_row : (i : ℕ) → blocks_in acts (nest_row i) ≡ blocks_of_row i
        of_row i = blocks_append acts (pair_rows i) (control (trip_end e scope at i) ∷ []) ∙ append-nil (blocks_in acts (pair_rows i)) ∙ blocks_rows acts (pair_row i) (range_with_len 1 (inner i).count)

  -- each control is an entry or an end
  pub data IsControlOf (c : List Act) : Type 0 where
    outer_entry : c ≡ loop_entry seen e scope at ∷ [] → IsControlOf c
    inner_entry : (i : ℕ) → 1 ≤ i → i ≤ e.count → c ≡ loop_entry (inner_seen i) (inner i) (inner_scope i) (inner_at i) ∷ [] → IsControlOf c
    inner_end : (i j : ℕ) → 1 ≤ i → i ≤ e.count → c ≡ trip_end (inner i) (inner_scope i) (inner_at i) j → IsControlOf c
    outer_end : (i : ℕ) → 1 ≤ i → i ≤ e.count → c ≡ trip_end e scope at i → IsControlOf c

  same_control : (c a : List Act) → control c ≡ control a → c ≡ a
  same_control c a q = cc

  no_block : (c : List Act) (i j : ℕ) → control c ≡ block i j → ⊥
  no_block c i j q = absurd cc

  in_pair : (c : List Act) (i j : ℕ) → IsIn (control c) (pair_row i j) → c ≡ trip_end (inner i) (inner_scope i) (inner_at i) j
  in_pair c i j (inl q) = absurd (no_block c (x i j) (y i j) q)
  in_pair c i j (inr (inl q)) = same_control c (trip_end (inner i) (inner_scope i) (inner_at i) j) q
  in_pair c i j (inr (inr k)) = absurd k

  in_nest_row : (c : List Act) (i : ℕ) → 1 ≤ i → i ≤ e.count → IsIn (control c) (nest_row i) → IsControlOf c
  in_nest_row c i from to (inl q) = inner_entry i from to (same_control c (loop_entry (inner_seen i) (inner i) (inner_scope i) (inner_at i) ∷ []) q)
  in_nest_row c i from to (inr k) = elim (in_parts (control c) (pair_rows i) (control (trip_end e scope at i) ∷ []) k) [
    | inl m ↦ (let r = in_rows (pair_row i) (range_with_len 1 (inner i).count) (control c) m in inner_end i r.0 from to (in_pair c i r.0 r.2))
    | inr m ↦ elim m [
      | inl q ↦ outer_end i from to (same_control c (trip_end e scope at i) q)
      | inr none ↦ absurd none
    ]
  ]

  pub control_of : (c : List Act) → IsIn (control c) nest_knots → IsControlOf c
  control_of c (inl q) = outer_entry (same_control c (loop_entry seen e scope at ∷ []) q)
  control_of c (inr k) =
      let r = in_rows nest_row (range_with_len 1 e.count) (control c) k in
      let w = in_numbers e.count 1 r.0 r.1 in
      in_nest_row c r.0 w.0 (let hi = w.1 in omega (arith, hi)) r.2

  -- each block is of a pair of iterations
  pub record IsPair (m n : ℕ) : Type 0 where
    pub outer : ℕ
    pub inner_number : ℕ
    pub from : 1 ≤ outer
    pub to : outer ≤ e.count
    pub inner_from : 1 ≤ inner_number
    pub inner_to : inner_number ≤ (inner outer).count
    pub one : m ≡ x outer inner_number
    pub two : n ≡ y outer inner_number

  same_block : (i j m n : ℕ) → block i j ≡ block m n → (i ≡ m) × (j ≡ n)
  same_block i j m n q = let one : i ≡ m = cc in let two : j ≡ n = cc in (one, two)

  block_in_pair : (m n i j : ℕ) → IsIn (block m n) (pair_row i j) → (m ≡ x i j) × (n ≡ y i j)
  block_in_pair m n i j (inl q) = same_block m n (x i j) (y i j) q
  block_in_pair m n i j (inr (inl q)) = absurd cc
  block_in_pair m n i j (inr (inr k)) = absurd k

  pub pair_of : (m n : ℕ) → IsIn (block m n) nest_knots → IsPair m n
  pair_of m n (inl q) = absurd cc
  pair_of m n (inr k) =
      let r = in_rows nest_row (range_with_len 1 e.count) (block m n) k in
      let w = in_numbers e.count 1 r.0 r.1 in
      by r.0 w.0 (let hi = w.1 in omega (arith, hi)) r.2
    where
      inner_row : (i : ℕ) → 1 ≤ i → i ≤ e.count → IsIn (block m n) (pair_rows i) → IsPair m n
      inner_row i from to j =
          let r = in_rows (pair_row i) (range_with_len 1 (inner i).count) (block m n) j in
          let w = in_numbers (inner i).count 1 r.0 r.1 in
          let is = block_in_pair m n i r.0 r.2 in
          record { outer = i; inner_number = r.0; from = from; to = to; inner_from = w.0; inner_to = (let hi = w.1 in omega (arith, hi)); one = is.0; two = is.1 }

      by : (i : ℕ) → 1 ≤ i → i ≤ e.count → IsIn (block m n) (nest_row i) → IsPair m n
      by i from to (inl q) = absurd cc
      by i from to (inr j) = elim (in_parts (block m n) (pair_rows i) (control (trip_end e scope at i) ∷ []) j) [
        | inl there ↦ inner_row i from to there
        | inr there ↦ elim there [ inl q ↦ absurd cc | inr none ↦ absurd none ]
      ]
