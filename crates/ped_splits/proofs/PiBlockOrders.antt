-- How pi-blocks are found one by one, by counts of the units that lead to one.
use Rattle.std.proofs.Common.{◌≡◌, ℕ, suc, zero, ◌+◌, ◌-◌, ◌<◌, ◌≤◌, ◌==◌, List, [], ◌∷◌, ◌++◌, map, length, take, drop, get_or, filter, cond, slice_index_or, Bool, true, false, not, ◌&&◌, ◌||◌, All, refl, sym, ap, subst, ◌∙◌, append-nil, eqb-true, arith}
use Rattle.std.specs.List.{count_by, sum_by, range_with_len}
use Rattle.std.proofs.lemmas.List.{append_assoc, map-id, take-append-drop, drop_more}
use Rattle.std.proofs.lemmas.List.Sums.{sum_by-cons}
use Rattle.std.proofs.lemmas.List.Filters.{sum_by-filter_both}
use Rattle.std.proofs.lemmas.List.Elements.{All-nil, All-cons, All-head, All-tail, All-filter, filter-append}
use Rattle.std.proofs.lemmas.List.FromFn.{get_or-map-range_with_len, map-range_with_len_more}
use Rattle.ped_splits.specs.PiBlocks.{reaches, are_together, is_free, pi_block_then, ordered, pi_blocks}
use Rattle.ped_splits.specs.CodeUnits.{AreBelow, leads, leaders}

-- what is so of all items, told from something else that is
pub all_by : {X : Type 0} (P Q : X → Type 0) (xs : List X) → ((x : X) → P x → Q x) → All P xs → All Q xs
all_by P Q [] f h = All-nil Q
all_by P Q (x ∷ xs) f h = All-cons Q x xs (f x (All-head P x xs h)) (all_by P Q xs f (All-tail P x xs h))

-- tests that agree on all items leave the same items
pub same_filter : {X : Type 0} (p q : X → Bool) (xs : List X) → All (λ x. p x ≡ q x) xs → filter p xs ≡ filter q xs
same_filter p q [] h = refl
same_filter p q (x ∷ xs) h =
    let here = All-head (λ y. p y ≡ q y) x xs h in
    let rest = same_filter p q xs (All-tail (λ y. p y ≡ q y) x xs h) in
    λ i. cond (here i) (x ∷ rest i) (rest i)

-- functions that agree on numbers below a bound
pub same_map : {X : Type 0} (f g : ℕ → X) (a n b : ℕ) → a + n ≤ b → ((i : ℕ) → i < b → f i ≡ g i) → map f (range_with_len a n) ≡ map g (range_with_len a n)
same_map f g a zero b le h = refl
same_map f g a (suc n) b le h =
    let here = h a (omega (arith, le)) in
    let rest = same_map f g (a + 1) n b (omega (arith, le)) h in
    λ i. here i ∷ rest i

-- the first item that passes a test
pub first_passes : {X : Type 0} (p : X → Bool) (xs : List X) (k : ℕ) (d : X) → k < length xs → filter p (take k xs) ≡ [] → p (get_or xs k d) ≡ true → filter p xs ≡ get_or xs k d ∷ filter p (drop (k + 1) xs)
first_passes p xs k d h none holds =
    ap (filter p) (sym (take-append-drop k xs)) ∙ filter-append p (take k xs) (drop k xs)
    ∙ (λ i. none i ++ filter p (drop_more xs k d h i))
    ∙ ap (λ (b : Bool). cond b (get_or xs k d ∷ filter p (drop (k + 1) xs)) (filter p (drop (k + 1) xs))) holds

pub range_more : (a n m : ℕ) → a + n ≡ m → range_with_len a (n + 1) ≡ range_with_len a n ++ m ∷ []
range_more a n m e = sym (map-id (range_with_len a (n + 1))) ∙ map-range_with_len_more (λ k. k) a n m e ∙ (λ i. map-id (range_with_len a n) i ++ m ∷ [])

pub range_below : (a n b : ℕ) → a + n ≤ b → All (λ i. i < b) (range_with_len a n)
range_below a zero b le = All-nil (λ i. i < b)
range_below a (suc n) b le = All-cons (λ i. i < b) a (range_with_len (a + 1) n) (omega (arith, le)) (range_below (a + 1) n b (omega (arith, le)))

more_is : (n : ℕ) → n ≡ 0 + n
more_is n = omega arith

less_none : (n : ℕ) → n - 0 ≡ n
less_none n = omega arith

not_none : (m : ℕ) → 0 < m → false ≡ (m == 0)
not_none m h = by (m == 0) refl
  where
    by : (b : Bool) → (m == 0) ≡ b → false ≡ (m == 0)
    by true e = let same = eqb-true m 0 e in absurd (omega (arith, same, h))
    by false e = sym e

step : (a b free : Bool) (n : ℕ) → free ≡ (n == 0) → ((not a || b) && free) ≡ ((cond (a && not b) 1 0 + n) == 0)
step true true free n e = e ∙ ap (λ (m : ℕ). m == 0) (more_is n)
step true false free n e = not_none (1 + n) (omega arith)
step false b free n e = e ∙ ap (λ (m : ℕ). m == 0) (more_is n)

module _ (reach : List (List Bool)) where
  -- none of the units that are left leads to a free one
  pub free_is : (left : List ℕ) (i : ℕ) → is_free reach left i ≡ (leaders reach left i == 0)
  free_is [] i = refl
  free_is (k ∷ left) i =
      step (reaches reach k i) (reaches reach i k) (is_free reach left i) (leaders reach left i) (free_is left i)
      ∙ ap (λ (n : ℕ). n == 0) (sym (sum_by-cons (λ (x : ℕ). cond (leads reach x i) 1 0) k left))

  -- the units that lead are in the pi-block, or behind it
  pub leaders_parted : (first : ℕ) (left : List ℕ) (i : ℕ) → leaders reach (filter (are_together reach first) left) i + leaders reach (filter (λ k. not (are_together reach first k)) left) i ≡ leaders reach left i
  leaders_parted first left i = sum_by-filter_both (are_together reach first) (λ k. not (are_together reach first k)) (λ x. refl) (λ (x : ℕ). cond (leads reach x i) 1 0) left

  -- behind so many rounds: the pi-blocks that are found, the units that are left, and how many of these lead to each unit
  pub record ArePlaced (round : ℕ) (found : List (List ℕ)) (left counts : List ℕ) : Type 0 where
    pub order : found ++ ordered reach (length reach - round) left ≡ pi_blocks reach
    pub below : AreBelow (length reach) left
    pub led : counts ≡ map (leaders reach left) (range_with_len 0 (length reach))

  pub at_first : (left counts : List ℕ) → left ≡ range_with_len 0 (length reach) → counts ≡ map (leaders reach left) (range_with_len 0 (length reach)) → ArePlaced 0 [] left counts
  at_first left counts all led = record {
    order = λ i. ordered reach (less_none (length reach) i) (all i);
    below = subst (AreBelow (length reach)) (sym all) (range_below 0 (length reach) (length reach) (omega arith));
    led = led;
  }

  module _ (round : ℕ) (found : List (List ℕ)) (left counts : List ℕ) (placed : ArePlaced round found left counts) where
    count_at : (i : ℕ) → i < length reach → slice_index_or counts i 0 ≡ leaders reach left i
    count_at i h = ap (λ (cs : List ℕ). slice_index_or cs i 0) placed.led ∙ get_or-map-range_with_len (leaders reach left) 0 (length reach) i i 0 h (omega arith)

    -- the code asks the counts
    pub free_units : filter (λ i. slice_index_or counts i 0 == 0) left ≡ filter (is_free reach left) left
    free_units =
        same_filter (λ i. slice_index_or counts i 0 == 0) (is_free reach left) left
        (all_by (λ i. i < length reach) (λ i. (slice_index_or counts i 0 == 0) ≡ is_free reach left i) left (λ i h. ap (λ (n : ℕ). n == 0) (count_at i h) ∙ sym (free_is left i)) placed.below)

    -- no unit is free
    pub none_free : filter (λ i. slice_index_or counts i 0 == 0) left ≡ [] → found ≡ pi_blocks reach
    none_free none = sym (append-nil found) ∙ ap (λ (more : List (List ℕ)). found ++ more) (sym (stops (length reach - round))) ∙ placed.order
      where
        stops : (m : ℕ) → ordered reach m left ≡ []
        stops zero = refl
        stops (suc m) = ap (pi_block_then reach (ordered reach m) left) (sym free_units ∙ none)

    -- all rounds are done
    pub all_done : round ≡ length reach → found ≡ pi_blocks reach
    all_done done = sym (append-nil found) ∙ ap (λ (m : ℕ). found ++ ordered reach m left) (zero_is (length reach - round) (omega (arith, done))) ∙ placed.order
      where
        zero_is : (m : ℕ) → m ≡ 0 → 0 ≡ m
        zero_is m e = sym e

    module _ (first : ℕ) (rest : List ℕ) (is : filter (λ i. slice_index_or counts i 0 == 0) left ≡ first ∷ rest) where
      -- the unit is one of them
      pub is_below : first < length reach
      is_below = All-head (λ i. i < length reach) first rest (subst (AreBelow (length reach)) is (All-filter (λ i. slice_index_or counts i 0 == 0) (λ i. i < length reach) left placed.below))

      abbrev pub block : List ℕ
      block = filter (are_together reach first) left

      abbrev pub later : List ℕ
      later = filter (λ k. not (are_together reach first k)) left

      pub block_below : AreBelow (length reach) block
      block_below = All-filter (are_together reach first) (λ i. i < length reach) left placed.below

      pub later_below : AreBelow (length reach) later
      later_below = All-filter (λ k. not (are_together reach first k)) (λ i. i < length reach) left placed.below

      pub are_enough : (i : ℕ) → i < length reach → leaders reach block i ≤ slice_index_or counts i 0
      are_enough i h = let all = leaders_parted first left i in let is_count = count_at i h in omega (arith, all, is_count)

      less_is : (i : ℕ) → i < length reach → slice_index_or counts i 0 - leaders reach block i ≡ leaders reach later i
      less_is i h = let all = leaders_parted first left i in let is_count = count_at i h in omega (arith, all, is_count)

      pub next : round < length reach → ArePlaced (round + 1) (found ++ block ∷ []) later (map (λ i. slice_index_or counts i 0 - leaders reach block i) (range_with_len 0 (length reach)))
      next more = record {
        order = append_assoc found (block ∷ []) (ordered reach (length reach - (round + 1)) later) ∙ ap (λ (behind : List (List ℕ)). found ++ behind) (sym (one_more (length reach - round) (omega (arith, more)))) ∙ placed.order;
        below = later_below;
        led = same_map (λ i. slice_index_or counts i 0 - leaders reach block i) (leaders reach later) 0 (length reach) (length reach) (omega arith) less_is;
      }
        where
          one_more : (m : ℕ) → m ≡ suc (length reach - (round + 1)) → ordered reach m left ≡ block ∷ ordered reach (length reach - (round + 1)) later
          one_more m e = ap (λ (k : ℕ). ordered reach k left) e ∙ ap (pi_block_then reach (ordered reach (length reach - (round + 1))) left) (sym free_units ∙ is)
