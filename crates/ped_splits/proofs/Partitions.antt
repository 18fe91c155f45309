-- Each unit stands in one block at most, and each statement in one unit; so the new program has few statements more.
use Rattle.std.proofs.Common.{◌≡◌, ℕ, zero, suc, ◌+◌, ◌-◌, ◌≤◌, ◌<◌, ◌==◌, List, [], ◌∷◌, ◌++◌, map, length, filter, cond, Bool, true, false, not, All, Option, Some, None, refl, sym, ap, ◌∙◌, eqb-true, arith}
use Rattle.std.specs.List.{flat_map, range_with_len, sum_by}
use Rattle.std.proofs.lemmas.List.{length-append, length-map}
use Rattle.std.proofs.lemmas.List.Sums.{sum_by-cons, sum_by-append, length-filter}
use Rattle.std.proofs.lemmas.List.Concat.{length-flat_map}
use Rattle.std.proofs.lemmas.List.Filters.{sum_by-filter_both}
use Rattle.std.proofs.lemmas.List.Elements.{All-nil, All-cons, All-filter}
use Rattle.std.proofs.lemmas.List.FromFn.{length-map-range_with_len, length-range_with_len}
use Rattle.ped_tree.specs.Tree.{StmtTrees, ProgramTree}
use Rattle.ped_tree.specs.Numbering.{statements_count}
use Rattle.ped_splits.specs.Units.{units, unit_of, is_unit, stands_in}
use Rattle.ped_splits.specs.PiBlocks.{are_together, is_free, pi_block_then, ordered, pi_blocks}
use Rattle.ped_splits.specs.CodeUnits.{AreBelow}
use Rattle.ped_splits.specs.Distributing.{numbers_of, pi_block_sources, loop_sources, unmoved, sources}
use Rattle.ped_splits.proofs.PiBlockOrders.{range_below}

-- all units of blocks, one block behind another
abbrev pub flat : List (List ℕ) → List ℕ
flat bs = flat_map (λ b. b) bs

module _ (reach : List (List Bool)) where
  -- what is summed over the units of all blocks is no more than over the units that were left
  pub sums_below : (f : ℕ → ℕ) (n : ℕ) (left : List ℕ) → sum_by f (flat (ordered reach n left)) ≤ sum_by f left
  sums_below f zero left = omega arith
  sums_below f (suc n) left = by (sums_below f n) (filter (is_free reach left) left)
    where
      by : ((later : List ℕ) → sum_by f (flat (ordered reach n later)) ≤ sum_by f later) → (free : List ℕ) → sum_by f (flat (pi_block_then reach (ordered reach n) left free)) ≤ sum_by f left
      by others [] = omega arith
      by others (i ∷ free) =
          let rest = others (filter (λ k. not (are_together reach i k)) left) in
          let parted = sum_by-filter_both (are_together reach i) (λ k. not (are_together reach i k)) (λ x. refl) f left in
          let whole = sum_by-append f (filter (are_together reach i) left) (flat (ordered reach n (filter (λ k. not (are_together reach i k)) left))) in
          omega (arith, rest, parted, whole)

  pub blocks_few : (n : ℕ) (left : List ℕ) → length (ordered reach n left) ≤ n
  blocks_few zero left = omega arith
  blocks_few (suc n) left = by (blocks_few n) (filter (is_free reach left) left)
    where
      by : ((later : List ℕ) → length (ordered reach n later) ≤ n) → (free : List ℕ) → length (pi_block_then reach (ordered reach n) left free) ≤ suc n
      by others [] = omega arith
      by others (i ∷ free) = let rest = others (filter (λ k. not (are_together reach i k)) left) in omega (arith, rest)

  pub blocks_below : (m n : ℕ) (left : List ℕ) → AreBelow m left → All (AreBelow m) (ordered reach n left)
  blocks_below m zero left h = All-nil (AreBelow m)
  blocks_below m (suc n) left h = by (blocks_below m n) (filter (is_free reach left) left)
    where
      by : ((later : List ℕ) → AreBelow m later → All (AreBelow m) (ordered reach n later)) → (free : List ℕ) → All (AreBelow m) (pi_block_then reach (ordered reach n) left free)
      by others [] = All-nil (AreBelow m)
      by others (i ∷ free) =
          All-cons (AreBelow m) (filter (are_together reach i) left) (ordered reach n (filter (λ k. not (are_together reach i k)) left)) (All-filter (are_together reach i) (λ k. k < m) left h)
          (others (filter (λ k. not (are_together reach i k)) left) (All-filter (λ k. not (are_together reach i k)) (λ k. k < m) left h))

-- sums
pub sum_plus : (a b : ℕ → ℕ) (xs : List ℕ) → sum_by (λ i. a i + b i) xs ≡ sum_by a xs + sum_by b xs
sum_plus a b [] = refl
sum_plus a b (x ∷ xs) =
    let rest = sum_plus a b xs in
    let whole = sum_by-cons (λ i. a i + b i) x xs in
    let one = sum_by-cons a x xs in
    let other = sum_by-cons b x xs in
    omega (arith, rest, whole, one, other)

pub sum_none : (xs : List ℕ) → sum_by (λ (i : ℕ). 0) xs ≡ 0
sum_none [] = refl
sum_none (x ∷ xs) = let rest = sum_none xs in let whole = sum_by-cons (λ (i : ℕ). 0) x xs in omega (arith, rest, whole)

-- 1 where it is so
abbrev pub tally : Bool → ℕ
tally b = cond b 1 0

-- a number is one of a range at most
differs : (j a : ℕ) (b : Bool) → (j == a) ≡ b → j < a → tally b ≡ 0
differs j a true e h = let same = eqb-true j a e in absurd (omega (arith, same, h))
differs j a false e h = refl

pub later_none : (j a n : ℕ) → j < a → sum_by (λ i. tally (j == i)) (range_with_len a n) ≡ 0
later_none j a zero h = refl
later_none j a (suc n) h =
    let rest = later_none j (a + 1) n (omega (arith, h)) in
    let whole = sum_by-cons (λ i. tally (j == i)) a (range_with_len (a + 1) n) in
    let other : tally (j == a) ≡ 0 = differs j a (j == a) refl h in
    omega (arith, rest, whole, other)

pub one_at_most : (j a n : ℕ) → sum_by (λ i. tally (j == i)) (range_with_len a n) ≤ 1
one_at_most j a zero = omega arith
one_at_most j a (suc n) = by (one_at_most j (a + 1) n) (j == a) refl
  where
    by : sum_by (λ i. tally (j == i)) (range_with_len (a + 1) n) ≤ 1 → (b : Bool) → (j == a) ≡ b → sum_by (λ i. tally (j == i)) (range_with_len a (suc n)) ≤ 1
    by less true e =
        let same = eqb-true j a e in
        let rest = later_none j (a + 1) n (omega (arith, same)) in
        let whole = sum_by-cons (λ i. tally (j == i)) a (range_with_len (a + 1) n) in
        let here : tally (j == a) ≡ 1 = ap tally e in
        omega (arith, rest, whole, here)
    by less false e =
        let whole = sum_by-cons (λ i. tally (j == i)) a (range_with_len (a + 1) n) in
        let here : tally (j == a) ≡ 0 = ap tally e in
        omega (arith, less, whole, here)

pub one_home : (o : Option ℕ) (n : ℕ) → sum_by (λ i. tally (is_unit i o)) (range_with_len 0 n) ≤ 1
one_home None n = let none = sum_none (range_with_len 0 n) in omega (arith, none)
one_home (Some j) n = one_at_most j 0 n

module _ (s : ℕ) (body : StmtTrees) where
  longer : (k : ℕ) (b : Bool) (xs : List ℕ) → length (cond b (k ∷ xs) xs) ≡ tally b + length xs
  longer k true xs = omega arith
  longer k false xs = omega arith

  -- statements stand in one unit each, at most
  numbers_parted : (n : ℕ) (ks : List ℕ) → sum_by (λ i. length (filter (stands_in s body i) ks)) (range_with_len 0 n) ≤ length ks
  numbers_parted n [] = let none = sum_none (range_with_len 0 n) in omega (arith, none)
  numbers_parted n (k ∷ ks) =
      let rest = numbers_parted n ks in
      let one : sum_by (λ i. tally (stands_in s body i k)) (range_with_len 0 n) ≤ 1 = one_home (unit_of s body k) n in
      let each : sum_by (λ i. length (filter (stands_in s body i) (k ∷ ks))) (range_with_len 0 n) ≡ sum_by (λ i. tally (stands_in s body i k) + length (filter (stands_in s body i) ks)) (range_with_len 0 n) =
      λ j. sum_by (λ i. longer k (stands_in s body i k) (filter (stands_in s body i) ks) j) (range_with_len 0 n) in
      let both = sum_plus (λ i. tally (stands_in s body i k)) (λ i. length (filter (stands_in s body i) ks)) (range_with_len 0 n) in
      omega (arith, rest, one, each, both)

  -- how many statements blocks have
  abbrev pub size_of : ℕ → ℕ
  size_of i = length (numbers_of s body i)

  block_long : (head : Option ℕ) (block : List ℕ) → length (pi_block_sources s body head block) ≡ 1 + sum_by size_of block
  block_long head block = let long = length-map (flat_map (numbers_of s body) block) Some in let parts = length-flat_map (numbers_of s body) block in omega (arith, long, parts)

  blocks_long : (bs : List (List ℕ)) → length (flat_map (pi_block_sources s body None) bs) ≡ length bs + sum_by size_of (flat bs)
  blocks_long [] = refl
  blocks_long (b ∷ bs) =
      let rest = blocks_long bs in
      let here = block_long None b in
      let whole = length-append (pi_block_sources s body None b) (flat_map (pi_block_sources s body None) bs) in
      let parts = sum_by-append size_of b (flat bs) in
      omega (arith, rest, here, whole, parts)

  pub loops_long : (bs : List (List ℕ)) → length (loop_sources s body bs) ≡ length bs + sum_by size_of (flat bs)
  loops_long [] = refl
  loops_long (b ∷ bs) =
      let rest = blocks_long bs in
      let here = block_long (Some s) b in
      let whole = length-append (pi_block_sources s body (Some s) b) (flat_map (pi_block_sources s body None) bs) in
      let parts = sum_by-append size_of b (flat bs) in
      omega (arith, rest, here, whole, parts)

  -- the new program has as many heads more as there are blocks, at most
  pub sources_few : (t : ProgramTree) (reach : List (List Bool)) → s + statements_count body ≤ statements_count t.body → length (sources t s body (pi_blocks reach)) ≤ statements_count t.body + length reach
  sources_few t reach inside =
      let found = pi_blocks reach in
      let all = range_with_len 0 (length reach) in
      let rear_count = statements_count t.body - (s + statements_count body) in
      let front : length (unmoved 1 (s - 1)) ≡ s - 1 = length-map-range_with_len Some 1 (s - 1) in
      let rear : length (unmoved (s + 1 + statements_count body) rear_count) ≡ rear_count = length-map-range_with_len Some (s + 1 + statements_count body) rear_count in
      let loops : length (loop_sources s body (pi_blocks reach)) ≡ length (pi_blocks reach) + sum_by size_of (flat (pi_blocks reach)) = loops_long (pi_blocks reach) in
      let few : length (pi_blocks reach) ≤ length reach = blocks_few reach (length reach) all in
      let sum : sum_by size_of (flat (pi_blocks reach)) ≤ sum_by size_of (range_with_len 0 (length reach)) = sums_below reach size_of (length reach) all in
      let parted : sum_by size_of (range_with_len 0 (length reach)) ≤ length (range_with_len (s + 1) (statements_count body)) = numbers_parted (length reach) (range_with_len (s + 1) (statements_count body)) in
      let numbers : length (range_with_len (s + 1) (statements_count body)) ≡ statements_count body = length-range_with_len (s + 1) (statements_count body) in
      let before : List (Option ℕ) = unmoved 1 (s - 1) ++ loop_sources s body (pi_blocks reach) in
      let first : length (sources t s body (pi_blocks reach)) ≡ length before + length (unmoved (s + 1 + statements_count body) rear_count) = length-append before (unmoved (s + 1 + statements_count body) rear_count) in
      let second : length before ≡ length (unmoved 1 (s - 1)) + length (loop_sources s body (pi_blocks reach)) = length-append (unmoved 1 (s - 1)) (loop_sources s body (pi_blocks reach)) in
      omega (arith, inside, front, rear, loops, few, sum, parted, numbers, first, second)
