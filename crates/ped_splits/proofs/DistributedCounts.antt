-- A program in which a DO is taken apart has a statement more for each new DO but the first.
use Rattle.std.proofs.Common.{◌≡◌, ℕ, zero, suc, ◌+◌, ◌≤◌, List, [], ◌∷◌, map, length, filter, Bool, true, not, ◌&&◌, ◌||◌, inl, inr, refl, sym, ap, subst, ◌∙◌, eq-eqb, arith}
use Rattle.std.specs.List.{sum_by, range_with_len}
use Rattle.std.specs.Prelude.{slice_index_or}
use Rattle.std.proofs.lemmas.List.Sums.{sum_by-append, sum_by-cons}
use Rattle.std.proofs.lemmas.List.Filters.{sum_by-filter_both}
use Rattle.std.proofs.lemmas.List.FromFn.{length-range_with_len}
use Rattle.ped_tree.specs.Tree.{Head, StmtTrees, Do, ProgramTree, no_stmts}
use Rattle.ped_tree.specs.Numbering.{statements_count}
use Rattle.ped_rules.specs.ped_flow.specs.Questions.{LoopOf}
use Rattle.ped_rules.specs.ped_steps.specs.declared.rules.Rule.TheVariants.{OneBlock}
use Rattle.ped_rules.specs.ped_steps.specs.Causes.{NoRule}
use Rattle.ped_rules.specs.ped_steps.specs.Replacing.{alone}
use Rattle.ped_splits.specs.Units.{units, arrows}
use Rattle.ped_splits.specs.PiBlocks.{ArePiBlocks, reaches, are_together, is_free, pi_block_then, ordered}
use Rattle.ped_splits.specs.Distributing.{loops_of, StandsAgainstDistribution}
use Rattle.ped_splits.proofs.PiBlockLaws.{In, all_placed, through, in_filter, from_filter}
use Rattle.ped_splits.proofs.PiBlockSizes.{width}
use Rattle.ped_splits.proofs.Partitions.{flat}
use Rattle.ped_splits.proofs.SplitUnits.{size_of_unit, heads_counted}
use Rattle.ped_splits.proofs.UnitSizes.{units_sum}

-- a list that has something isn't empty
some_length : (x : ℕ) (xs : List ℕ) → In x xs → 1 ≤ length xs
some_length x [] h = absurd h
some_length x (y ∷ xs) h = omega arith

one_each : (xs : List ℕ) → sum_by (λ (y : ℕ). 1) xs ≡ length xs
one_each [] = refl
one_each (x ∷ xs) = let rest = one_each xs in let whole = sum_by-cons (λ (y : ℕ). 1) x xs in omega (arith, rest, whole)

module _ (reach : List (List Bool)) (passes : (i j k : ℕ) → reaches reach i j ≡ true → reaches reach j k ≡ true → reaches reach i k ≡ true) (f : ℕ → ℕ) where
  -- what is summed over the units of all blocks is no less than over the units that were left
  sums_above : (n : ℕ) (left : List ℕ) → length left ≤ n → sum_by f left ≤ sum_by f (flat (ordered reach n left))
  sums_above zero [] few = omega arith
  sums_above zero (x ∷ xs) few = absurd (omega (arith, few))
  sums_above (suc n) [] few = omega arith
  sums_above (suc n) (x ∷ xs) few = by (sums_above n) (filter (is_free reach (x ∷ xs)) (x ∷ xs)) refl (all_placed reach passes (suc n) (x ∷ xs) few x (inl refl))
    where
      left : List ℕ
      left = x ∷ xs

      by : ((later : List ℕ) → length later ≤ n → sum_by f later ≤ sum_by f (flat (ordered reach n later))) → (free : List ℕ) → filter (is_free reach left) left ≡ free → In x (flat (pi_block_then reach (ordered reach n) left free))
          → sum_by f left ≤ sum_by f (flat (pi_block_then reach (ordered reach n) left free))
      by others [] e inside = absurd inside
      by others (i ∷ free) e inside =
          let first = (from_filter (is_free reach left) i left (subst (In i) (sym e) (inl refl))).0 in
          let own : are_together reach i i ≡ true = ap (λ (b : Bool). b || (reaches reach i i && reaches reach i i)) (eq-eqb i i refl) in
          let some = some_length i (filter (are_together reach i) left) (in_filter (are_together reach i) i left first own) in
          let later = filter (λ k. not (are_together reach i k)) left in
          let parted = sum_by-filter_both (are_together reach i) (λ k. not (are_together reach i k)) (λ y. refl) (λ (y : ℕ). 1) left in
          let a = one_each (filter (are_together reach i) left) in
          let b = one_each later in
          let c = one_each left in
          let shorter : length later ≤ n = omega (arith, parted, some, a, b, c, few) in
          let rest = others later shorter in
          let both = sum_by-filter_both (are_together reach i) (λ k. not (are_together reach i k)) (λ y. refl) f left in
          let whole = sum_by-append f (filter (are_together reach i) left) (flat (ordered reach n later)) in
          omega (arith, rest, both, whole)

-- units by their numbers
sums_at : (us : List StmtTrees) (a : ℕ) (g : ℕ → ℕ) → ((k : ℕ) → g (a + k) ≡ statements_count (slice_index_or us k no_stmts)) → sum_by g (range_with_len a (length us)) ≡ sum_by statements_count us
sums_at [] a g h = refl
sums_at (u ∷ us) a g h =
    let rest = sums_at us (a + 1) g (λ k. ap g (let e : a + 1 + k ≡ a + suc k = omega arith in e) ∙ h (suc k)) in
    let here : g a ≡ statements_count u = ap g (let e : a ≡ a + 0 = omega arith in e) ∙ h 0 in
    let whole = sum_by-cons g a (range_with_len (a + 1) (length us)) in
    let part = sum_by-cons statements_count u us in
    omega (arith, rest, here, whole, part)

-- the statements of a DO that is taken apart stand in the new ones
pub distributed_counted : (t : ProgramTree) (s : ℕ) (h : Head) (body : StmtTrees) (found : List (List ℕ)) → ArePiBlocks t s h body found → length found + statements_count body ≤ statements_count (loops_of found h body)
distributed_counted t s h body found are =
    let n = length are.reach in
    let wide = width t s h body found are in
    let long = length-range_with_len 0 n in
    let above = sums_above are.reach (through (arrows t s h body are.edges) are.reach are.closed) (size_of_unit body) n (range_with_len 0 n) (omega (arith, long)) in
    let same : sum_by (size_of_unit body) (flat found) ≡ sum_by (size_of_unit body) (flat (ordered are.reach n (range_with_len 0 n))) = ap (λ (bs : List (List ℕ)). sum_by (size_of_unit body) (flat bs)) are.order in
    let units_are : sum_by (size_of_unit body) (range_with_len 0 n) ≡ sum_by statements_count (units body) = ap (λ (m : ℕ). sum_by (size_of_unit body) (range_with_len 0 m)) wide ∙ sums_at (units body) 0 (size_of_unit body) (λ k. ap (size_of_unit body) (let e : 0 + k ≡ k = omega arith in e)) in
    let all = units_sum body in
    let heads = heads_counted h body found in
    omega (arith, above, same, units_are, all, heads)

-- where nothing forbids the step there is a new DO, so there are no fewer statements
pub no_fewer : (t : ProgramTree) (s : ℕ) (l : LoopOf t s) (found : List (List ℕ)) → ArePiBlocks t s l.head l.body found → NoRule (StandsAgainstDistribution s t) → statements_count (alone (Do l.head l.body)) ≤ statements_count (loops_of found l.head l.body)
no_fewer t s l [] are none = absurd (none OneBlock s (inr (inr (inr (inr (inl (refl, (l, [], are, omega arith, refl))))))))
no_fewer t s l (block ∷ found) are none = let all = distributed_counted t s l.head l.body (block ∷ found) are in omega (arith, all)
