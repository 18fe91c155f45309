-- The rows that the code makes are the arrows between units.
use Rattle.std.proofs.Common.{◌≡◌, ◌⊎◌, ◌↔◌, ℕ, ◌<◌, ◌≤◌, List, [], map, length, replicate, slice_index_or, Bool, true, false, ◌&&◌, ◌||◌, IsTrue, inl, inr, refl, sym, ap, subst, ◌∙◌}
use Rattle.std.specs.List.{list_any}
use Rattle.std.proofs.lemmas.List.{ext_get_or, get_or-replicate, get_or_past, length-replicate}
use Rattle.std.proofs.lemmas.Bool.{cases_lt, false≢true}
use Rattle.ped_bits.specs.Reaching.{row_of, Arrow, Reaches, IsSquare}
use Rattle.ped_tree.specs.Tree.{Head, StmtTrees, ProgramTree}
use Rattle.ped_rules.specs.Carried.{level_at}
use Rattle.ped_edges.specs.Edges.{Edge}
use Rattle.ped_refs.specs.References.{Reference, references}
use Rattle.ped_splits.specs.Units.{units, homes, is_arrow, arrows, IsClosure}
use Rattle.ped_splits.specs.CodeUnits.{leads_between, refers_by}
use Rattle.ped_splits.proofs.ArrowLaws.{Adds, true_either}
use Rattle.ped_splits.proofs.OnePiBlocks.{same_truth}
use Rattle.ped_splits.proofs.Existence.Closures.{rows_by, long_by, square_by, test_by}

-- rows with these arrows are those of the test
pub rows_are : (n : ℕ) (f : ℕ → ℕ → Bool) (m : List (List Bool)) → length m ≡ n → IsSquare m → ((i j : ℕ) → Arrow m i j ↔ IsTrue (f i j)) → m ≡ rows_by n f
rows_are n f m long square are = ext_get_or [] m (rows_by n f) (long ∙ sym (long_by n f)) each
  where
    each : (i : ℕ) → i < length m → row_of m i ≡ row_of (rows_by n f) i
    each i h =
        let inside : i < n = subst (λ (k : ℕ). i < k) long h in
        let other : i < length (rows_by n f) = subst (λ (k : ℕ). i < k) (sym (long_by n f)) inside in
        ext_get_or false (row_of m i) (row_of (rows_by n f) i) (square i h ∙ long ∙ sym (long_by n f) ∙ sym (square_by n f i other)) (place i h inside)
      where
        place : (i : ℕ) → i < length m → i < n → (j : ℕ) → j < length (row_of m i) → slice_index_or (row_of m i) j false ≡ slice_index_or (row_of (rows_by n f) i) j false
        place i h inside j k =
            let there : j < n = subst (λ (w : ℕ). j < w) (square i h ∙ long) k in
            same_truth (slice_index_or (row_of m i) j false) (f i j) (are i j).0 (are i j).1 ∙ sym (test_by n f i j inside there)

-- no arrow stands in rows without one
pub no_arrow : (n w i j : ℕ) → Arrow (replicate n (replicate w false)) i j → ⊥
no_arrow n w i j a = elim (cases_lt i n) [
  | inl h ↦ elim (cases_lt j w) [
    | inl k ↦ false≢true (sym (ap (λ (row : List Bool). slice_index_or row j false) (get_or-replicate n i (replicate w false) [] h) ∙ get_or-replicate w j false false k) ∙ a)
    | inr k ↦ false≢true (sym (ap (λ (row : List Bool). slice_index_or row j false) (get_or-replicate n i (replicate w false) [] h) ∙ get_or_past (replicate w false) j false (subst (λ (x : ℕ). x ≤ j) (sym (length-replicate {A = Bool} w false)) k)) ∙ a)
  ]
  | inr h ↦ false≢true (sym (ap (λ (row : List Bool). slice_index_or row j false) (get_or_past (replicate n (replicate w false)) i [] (subst (λ (x : ℕ). x ≤ i) (sym (length-replicate {A = List Bool} n (replicate w false))) h))) ∙ a)
]

module _ (t : ProgramTree) (s : ℕ) (h : Head) (body : StmtTrees) (edges : List Edge) where
  -- arrows of dependences, and of names, as the code adds them
  abbrev pub leading : (level : ℕ) → List ℕ → ℕ → ℕ → Bool
  leading level found i j = list_any (leads_between level s found i j) edges

  abbrev pub linked : List ℕ → List Reference → ℕ → ℕ → Bool
  linked found refs i j = list_any (λ x. refers_by s found refs x i && refers_by s found refs x j) h.private

  module _ (level : ℕ) (found : List ℕ) (refs : List Reference) (is_level : level ≡ level_at t s) (are_homes : found ≡ homes 0 (units body)) (are_refs : refs ≡ references t) where
    arrow_is : (i j : ℕ) → (leading level found i j || linked found refs i j) ≡ is_arrow t s h body edges i j
    arrow_is i j = λ k. leading (is_level k) (are_homes k) i j || linked (are_homes k) (are_refs k) i j

    -- so what the code closes are these arrows
    pub closed_arrows : (n w : ℕ) (first second reach : List (List Bool)) → length second ≡ length (units body) → IsSquare second → Adds (replicate n (replicate w false)) first (λ i j. IsTrue (leading level found i j)) → Adds first second (λ i j. IsTrue (linked found refs i j))
        → length reach ≡ length second → IsSquare reach → ((i j : ℕ) → Arrow reach i j ↔ Reaches second i j) → IsClosure (arrows t s h body edges) reach
    closed_arrows n w first second reach long square deps links wide is_square reaches =
        let same = rows_are (length (units body)) (is_arrow t s h body edges) second long square (λ i j. (to i j, from i j)) in
        record { width = wide ∙ ap (λ (m : List (List Bool)). length m) same; square = is_square; reaches = λ i j. subst (λ (m : List (List Bool)). Arrow reach i j ↔ Reaches m i j) same (reaches i j) }
      where
        to : (i j : ℕ) → Arrow second i j → IsTrue (is_arrow t s h body edges i j)
        to i j a = sym (arrow_is i j) ∙ (true_either (leading level found i j) (linked found refs i j)).0 (elim ((links i j).0 a) [
          | inl b ↦ elim ((deps i j).0 b) [
            | inl z ↦ absurd (no_arrow n w i j z)
            | inr x ↦ inl x
          ]
          | inr y ↦ inr y
        ])

        from : (i j : ℕ) → IsTrue (is_arrow t s h body edges i j) → Arrow second i j
        from i j x = elim ((true_either (leading level found i j) (linked found refs i j)).1 (arrow_is i j ∙ x)) [
          | inl d ↦ (links i j).1 (inl ((deps i j).1 (inr d)))
          | inr l ↦ (links i j).1 (inr l)
        ]
