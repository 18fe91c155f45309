-- Each unit has one place: it stands in one block alone, and once there, in the order of the text.
use Rattle.std.proofs.Common.{◌≡◌, ℕ, zero, suc, ◌+◌, ◌<◌, ◌≤◌, List, [], ◌∷◌, length, filter, cond, slice_index_or, Bool, true, false, not, inl, inr, refl, sym, ap, subst, ◌∙◌, arith}
use Rattle.std.specs.List.{range_with_len}
use Rattle.ped_tree.specs.Tree.{Head, StmtTrees, ProgramTree}
use Rattle.ped_splits.specs.Units.{arrows}
use Rattle.ped_splits.specs.PiBlocks.{reaches, are_together, is_free, pi_block_then, ordered, ArePiBlocks}
use Rattle.ped_splits.proofs.PiBlockLaws.{In, from_filter, from_placed, through}
use Rattle.ped_splits.proofs.Partitions.{flat}
use Rattle.ped_splits.proofs.KeptArrows.{in_flat}

-- no unit stands in two of these blocks
abbrev pub AreApart : List (List ℕ) → Type 0
AreApart [] = Unit {0}
AreApart (b ∷ bs) = ((k : ℕ) → In k b → In k (flat bs) → ⊥) × AreApart bs

-- each number is greater than those before it
abbrev pub IsRising : List ℕ → Type 0
IsRising [] = Unit {0}
IsRising (k ∷ ks) = ((m : ℕ) → In m ks → k < m) × IsRising ks

abbrev pub AreRising : List (List ℕ) → Type 0
AreRising [] = Unit {0}
AreRising (b ∷ bs) = IsRising b × AreRising bs

pub one_place : (bs : List (List ℕ)) → AreApart bs → (i x y : ℕ) → In i (slice_index_or bs x []) → In i (slice_index_or bs y []) → x ≡ y
one_place [] apart i x y here there = absurd here
one_place (b ∷ bs) apart i zero zero here there = refl
one_place (b ∷ bs) apart i zero (suc y) here there = absurd (apart.0 i here (in_flat i y bs there))
one_place (b ∷ bs) apart i (suc x) zero here there = absurd (apart.0 i there (in_flat i x bs here))
one_place (b ∷ bs) apart i (suc x) (suc y) here there = ap suc (one_place bs apart.1 i x y here there)

rising_filter : (p : ℕ → Bool) (xs : List ℕ) → IsRising xs → IsRising (filter p xs)
rising_filter p [] r = tt
rising_filter p (k ∷ ks) r = by (rising_filter p ks r.1) (p k)
  where
    by : IsRising (filter p ks) → (b : Bool) → IsRising (cond b (k ∷ filter p ks) (filter p ks))
    by rest true = (λ m inside. r.0 m (from_filter p m ks inside).0, rest)
    by rest false = rest

pub range_at_least : (a n m : ℕ) → In m (range_with_len a n) → a ≤ m
range_at_least a zero m inside = absurd inside
range_at_least a (suc n) m (inl e) = omega (arith, e)
range_at_least a (suc n) m (inr h) = let more = range_at_least (a + 1) n m h in omega (arith, more)

pub rising_range : (a n : ℕ) → IsRising (range_with_len a n)
rising_range a zero = tt
rising_range a (suc n) = (λ m inside. (let more = range_at_least (a + 1) n m inside in omega (arith, more)), rising_range (a + 1) n)

module _ (reach : List (List Bool)) (passes : (i j k : ℕ) → reaches reach i j ≡ true → reaches reach j k ≡ true → reaches reach i k ≡ true) where
  pub all_apart : (n : ℕ) (left : List ℕ) → AreApart (ordered reach n left)
  all_apart zero left = tt
  all_apart (suc n) left = by (all_apart n) (filter (is_free reach left) left)
    where
      by : ((later : List ℕ) → AreApart (ordered reach n later)) → (free : List ℕ) → AreApart (pi_block_then reach (ordered reach n) left free)
      by others [] = tt
      by others (i ∷ free) = (λ k here there. both k (from_filter (are_together reach i) k left here).1 (from_filter (λ m. not (are_together reach i m)) k left (from_placed reach passes n (filter (λ m. not (are_together reach i m)) left) k there)).1, others (filter (λ m. not (are_together reach i m)) left))
        where
          both : (k : ℕ) → are_together reach i k ≡ true → not (are_together reach i k) ≡ true → ⊥
          both k p q = let wrong : false ≡ true = sym (ap not p) ∙ q in absurd cc

  pub all_rising : (n : ℕ) (left : List ℕ) → IsRising left → AreRising (ordered reach n left)
  all_rising zero left r = tt
  all_rising (suc n) left r = by (all_rising n) (filter (is_free reach left) left)
    where
      by : ((later : List ℕ) → IsRising later → AreRising (ordered reach n later)) → (free : List ℕ) → AreRising (pi_block_then reach (ordered reach n) left free)
      by others [] = tt
      by others (i ∷ free) = (rising_filter (are_together reach i) left r, others (filter (λ m. not (are_together reach i m)) left) (rising_filter (λ m. not (are_together reach i m)) left r))

module _ (t : ProgramTree) (s : ℕ) (h : Head) (body : StmtTrees) (found : List (List ℕ)) (are : ArePiBlocks t s h body found) where
  passing : (i j k : ℕ) → reaches are.reach i j ≡ true → reaches are.reach j k ≡ true → reaches are.reach i k ≡ true
  passing = through (arrows t s h body are.edges) are.reach are.closed

  pub found_apart : AreApart found
  found_apart = subst AreApart (sym are.order) (all_apart are.reach passing (length are.reach) (range_with_len 0 (length are.reach)))

  pub found_rising : AreRising found
  found_rising = subst AreRising (sym are.order) (all_rising are.reach passing (length are.reach) (range_with_len 0 (length are.reach)) (rising_range 0 (length are.reach)))

  -- a unit stands in one block alone
  pub one_block : (i x y : ℕ) → In i (slice_index_or found x []) → In i (slice_index_or found y []) → x ≡ y
  one_block = one_place found found_apart
