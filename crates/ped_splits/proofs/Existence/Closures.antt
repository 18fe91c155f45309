-- Arrows have what they reach: the places are gone over one by one (Warshall, 1962). And the units of a DO have blocks.
use Rattle.std.proofs.Common.{◌≡◌, ◌⊎◌, ◌↔◌, ℕ, zero, suc, ◌+◌, ◌<◌, List, [], ◌∷◌, ◌++◌, map, length, slice_index_or, Bool, true, false, ◌&&◌, ◌||◌, IsTrue, refl, sym, ap, subst, ◌∙◌, inl, inr, arith}
use Rattle.std.specs.List.{range_with_len}
use Rattle.std.proofs.lemmas.List.{get_or_past, length-map}
use Rattle.std.proofs.lemmas.List.FromFn.{get_or-map-range_with_len, length-map-range_with_len, length-range_with_len}
use Rattle.std.proofs.lemmas.Bool.{cases_lt, cases_eq, false≢true}
use Rattle.ped_bits.specs.Places.{Has}
use Rattle.ped_bits.specs.Reaching.{row_of, Arrow, IsPath, Reaches, IsSquare}
use Rattle.ped_tree.specs.Tree.{Head, StmtTrees, ProgramTree}
use Rattle.ped_splits.specs.Units.{units, is_arrow, arrows, IsClosure}
use Rattle.ped_splits.specs.PiBlocks.{reaches, pi_blocks, ArePiBlocks}
use Rattle.ped_splits.proofs.ArrowLaws.{true_either, true_both}
use Rattle.ped_splits.proofs.Existence.Edges.{edges_of_program}

-- rows by a test
abbrev pub rows_by : ℕ → (ℕ → ℕ → Bool) → List (List Bool)
rows_by n f = map (λ i. map (f i) (range_with_len 0 n)) (range_with_len 0 n)

module _ (n : ℕ) (f : ℕ → ℕ → Bool) where
  pub long_by : length (rows_by n f) ≡ n
  long_by = length-map-range_with_len (λ i. map (f i) (range_with_len 0 n)) 0 n

  pub row_by : (i : ℕ) → i < n → row_of (rows_by n f) i ≡ map (f i) (range_with_len 0 n)
  row_by i h = get_or-map-range_with_len (λ k. map (f k) (range_with_len 0 n)) 0 n i i [] h (omega arith)

  pub square_by : IsSquare (rows_by n f)
  square_by i h = let inside = subst (λ (m : ℕ). i < m) long_by h in ap (λ (row : List Bool). length row) (row_by i inside) ∙ length-map-range_with_len (f i) 0 n ∙ sym long_by

  pub test_by : (i j : ℕ) → i < n → j < n → reaches (rows_by n f) i j ≡ f i j
  test_by i j h k = ap (λ (row : List Bool). slice_index_or row j false) (row_by i h) ∙ get_or-map-range_with_len (f i) 0 n j j false k (omega arith)

-- an arrow leads between places of the rows
has_below : (row : List Bool) (j : ℕ) → Has row j → j < length row
has_below row j h = elim (cases_lt j (length row)) [
  | inl l ↦ l
  | inr g ↦ absurd (false≢true (sym (get_or_past row j false g) ∙ h))
]

arrow_from : (m : List (List Bool)) (i j : ℕ) → Arrow m i j → i < length m
arrow_from m i j a = elim (cases_lt i (length m)) [
  | inl l ↦ l
  | inr g ↦ absurd (false≢true (sym (ap (λ (row : List Bool). slice_index_or row j false) (get_or_past m i [] g)) ∙ a))
]

arrow_to : (m : List (List Bool)) → IsSquare m → (i j : ℕ) → Arrow m i j → j < length m
arrow_to m square i j a = let l = arrow_from m i j a in let h = has_below (row_of m i) j a in let s = square i l in omega (arith, h, s)

-- paths over places below n
abbrev AllBelow : ℕ → List ℕ → Type 0
AllBelow n [] = Unit {0}
AllBelow n (k ∷ via) = (k < n) × AllBelow n via

abbrev Within : List (List Bool) → ℕ → ℕ → ℕ → Type 0
Within m n i j = (via : List ℕ) × IsPath m i via j × AllBelow n via

join : (m : List (List Bool)) (i k j : ℕ) (v w : List ℕ) → IsPath m i v k → IsPath m k w j → IsPath m i (v ++ k ∷ w) j
join m i k j [] w p q = (p, q)
join m i k j (x ∷ v) w p q = (p.0, join m x k j v w p.1 q)

both_below : (n k : ℕ) (v w : List ℕ) → k < n → AllBelow n v → AllBelow n w → AllBelow n (v ++ k ∷ w)
both_below n k [] w h a b = (h, b)
both_below n k (x ∷ v) w h a b = (a.0, both_below n k v w h a.1 b)

more_below : (n : ℕ) (v : List ℕ) → AllBelow n v → AllBelow (suc n) v
more_below n [] a = tt
more_below n (x ∷ v) a = (let h = a.0 in omega arith, more_below n v a.1)

split : (m : List (List Bool)) (n i j : ℕ) (via : List ℕ) → IsPath m i via j → AllBelow (suc n) via → Within m n i j ⊎ (Within m n i n × Within m n n j)
split m n i j [] p b = inl ([], p, tt)
split m n i j (k ∷ via) p b =
    elim (cases_eq k n) [
      | inl e ↦ elim (split m n k j via p.1 b.1) [
        | inl w ↦ inr (([], subst (λ (x : ℕ). Arrow m i x) e p.0, tt), subst (λ (x : ℕ). Within m n x j) e w)
        | inr w ↦ inr (([], subst (λ (x : ℕ). Arrow m i x) e p.0, tt), w.1)
      ]
      | inr d ↦
          let h : k < n = let l = b.0 in omega arith in
          elim (split m n k j via p.1 b.1) [
            | inl w ↦ inl (k ∷ w.0, (p.0, w.1), (h, w.2))
            | inr w ↦ inr ((k ∷ w.0.0, (p.0, w.0.1), (h, w.0.2)), w.1)
          ]
    ]

ends : (m : List (List Bool)) → IsSquare m → (i j : ℕ) (via : List ℕ) → IsPath m i via j → (i < length m) × (j < length m) × AllBelow (length m) via
ends m square i j [] p = (arrow_from m i j p, arrow_to m square i j p, tt)
ends m square i j (k ∷ via) p = let rest = ends m square k j via p.1 in (arrow_from m i k p.0, rest.1, (arrow_to m square i k p.0, rest.2))

module _ (old : List (List Bool)) (square : IsSquare old) where
  -- what is reached over the places below n
  abbrev over : ℕ → ℕ → ℕ → Bool
  over zero i j = reaches old i j
  over (suc n) i j = over n i j || (over n i n && over n n j)

  over_is : (n i j : ℕ) → IsTrue (over n i j) ↔ Within old n i j
  over_is zero i j = ((λ a. ([], a, tt)), back)
    where
      back : Within old zero i j → IsTrue (over zero i j)
      back ([], p, b) = p
      back (k ∷ via, p, b) = absurd (let h = b.0 in omega arith)
  over_is (suc n) i j = (there (over_is n), back (over_is n))
    where
      there : ((a b : ℕ) → IsTrue (over n a b) ↔ Within old n a b) → IsTrue (over (suc n) i j) → Within old (suc n) i j
      there before t = elim ((true_either (over n i j) (over n i n && over n n j)).1 t) [
        | inl x ↦ (let w = (before i j).0 x in (w.0, w.1, more_below n w.0 w.2))
        | inr x ↦
            let p = (true_both (over n i n) (over n n j)).1 x in
            let v = (before i n).0 p.0 in
            let w = (before n j).0 p.1 in
            (v.0 ++ n ∷ w.0, join old i n j v.0 w.0 v.1 w.1, both_below (suc n) n v.0 w.0 (omega arith) (more_below n v.0 v.2) (more_below n w.0 w.2))
      ]

      back : ((a b : ℕ) → IsTrue (over n a b) ↔ Within old n a b) → Within old (suc n) i j → IsTrue (over (suc n) i j)
      back before w = (true_either (over n i j) (over n i n && over n n j)).0 (elim (split old n i j w.0 w.1 w.2) [
        | inl x ↦ inl ((before i j).1 x)
        | inr x ↦ inr ((true_both (over n i n) (over n n j)).0 ((before i n).1 x.0, (before n j).1 x.1))
      ])

  abbrev closed_rows : List (List Bool)
  closed_rows = rows_by (length old) (over (length old))

  pub closure : (reach : List (List Bool)) × IsClosure old reach
  closure = (closed_rows, record { width = long_by (length old) (over (length old)); square = square_by (length old) (over (length old)); reaches = λ i j. (to i j, from i j) })
    where
      to : (i j : ℕ) → Arrow closed_rows i j → Reaches old i j
      to i j a =
          let h = subst (λ (m : ℕ). i < m) (long_by (length old) (over (length old))) (arrow_from closed_rows i j a) in
          let k = subst (λ (m : ℕ). j < m) (long_by (length old) (over (length old))) (arrow_to closed_rows (square_by (length old) (over (length old))) i j a) in
          let w = (over_is (length old) i j).0 (sym (test_by (length old) (over (length old)) i j h k) ∙ a) in
          (w.0, w.1)

      from : (i j : ℕ) → Reaches old i j → Arrow closed_rows i j
      from i j r = let e = ends old square i j r.0 r.1 in test_by (length old) (over (length old)) i j e.0 e.1 ∙ (over_is (length old) i j).1 (r.0, r.1, e.2)

-- the units of a DO have blocks
pub pi_blocks_exist : (t : ProgramTree) (s : ℕ) (h : Head) (body : StmtTrees) → (found : List (List ℕ)) × ArePiBlocks t s h body found
pi_blocks_exist t s h body =
    let edges = edges_of_program t in
    let square = square_by (length (units body)) (is_arrow t s h body edges.0) in
    let reach = closure (arrows t s h body edges.0) square in
    (pi_blocks reach.0, record { edges = edges.0; are = edges.1; reach = reach.0; closed = reach.1; order = refl })
