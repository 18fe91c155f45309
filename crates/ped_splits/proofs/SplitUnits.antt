-- Where units stand in the body of a DO: their statements have numbers one behind another, and all units together are the body.
use Rattle.std.proofs.Common.{◌≡◌, ℕ, zero, suc, ◌+◌, ◌-◌, ◌<◌, ◌==◌, List, [], ◌∷◌, ◌++◌, length, replicate, filter, cond, Bool, true, false, Some, None, if◌then◌else◌, refl, sym, ap, ◌∙◌, append-nil, eqb-true, eq-eqb, arith}
use Rattle.std.proofs.lemmas.Bool.{lt-ltb}
use Rattle.std.proofs.lemmas.List.{length-append}
use Rattle.std.proofs.lemmas.List.Elements.{filter-append, All-head, All-tail}
use Rattle.std.proofs.lemmas.List.FromFn.{length-range_with_len}
use Rattle.std.proofs.lemmas.List.Sums.{sum_by-cons, sum_by-append}
use Rattle.std.specs.List.{range_with_len, sum_by}
use Rattle.std.specs.Prelude.{slice_get, slice_index_or}
use Rattle.ped_tree.specs.Tree.{Head, StmtTrees, no_stmts, more_stmts}
use Rattle.ped_tree.specs.Numbering.{statement_count, statements_count}
use Rattle.ped_rules.specs.ped_loop_runs.proofs.TidyLaws.TidyPathsGaps.{followed_count}
use Rattle.ped_rules.specs.ped_steps.specs.Replacing.{followed, alone}
use Rattle.ped_splits.proofs.Partitions.{flat}
use Rattle.ped_splits.proofs.UnitSizes.{homes_long, units_sum}
use Rattle.ped_splits.specs.CodeUnits.{AreBelow}
use Rattle.ped_splits.specs.Distributing.{joined, units_at, loops_of, numbers_of}
use Rattle.ped_splits.specs.Units.{before_first, units, homes, is_unit, stands_in}

-- how many statements stand in the units before this one
abbrev pub offset : List StmtTrees → ℕ → ℕ
offset [] i = 0
offset (u ∷ us) zero = 0
offset (u ∷ us) (suc i) = statements_count u + offset us i

parted_range : (a m n : ℕ) → range_with_len a (m + n) ≡ range_with_len a m ++ range_with_len (a + m) n
parted_range a zero n = (λ i. range_with_len ((let e : a ≡ a + 0 = omega arith in e) i) ((let f : 0 + n ≡ n = omega arith in f) i))
parted_range a (suc m) n = ap (range_with_len a) (let f : suc m + n ≡ suc (m + n) = omega arith in f) ∙ ap (λ (xs : List ℕ). a ∷ xs) (parted_range (a + 1) m n ∙ ap (λ (b : ℕ). range_with_len (a + 1) m ++ range_with_len b n) (let e : a + 1 + m ≡ a + suc m = omega arith in e))

-- a test that all numbers of a range pass, or none
all_pass : (p : ℕ → Bool) (a n : ℕ) → ((m : ℕ) → m < n → p (a + m) ≡ true) → filter p (range_with_len a n) ≡ range_with_len a n
all_pass p a zero h = refl
all_pass p a (suc n) h =
    (λ i. cond ((ap p (let e : a ≡ a + 0 = omega arith in e) ∙ h 0 (omega arith)) i) (a ∷ filter p (range_with_len (a + 1) n)) (filter p (range_with_len (a + 1) n)))
    ∙ ap (λ (xs : List ℕ). a ∷ xs) (all_pass p (a + 1) n (λ m less. ap p (let e : a + 1 + m ≡ a + suc m = omega arith in e) ∙ h (suc m) (omega (arith, less))))

none_passes : (p : ℕ → Bool) (a n : ℕ) → ((m : ℕ) → m < n → p (a + m) ≡ false) → filter p (range_with_len a n) ≡ []
none_passes p a zero h = refl
none_passes p a (suc n) h =
    (λ i. cond ((ap p (let e : a ≡ a + 0 = omega arith in e) ∙ h 0 (omega arith)) i) (a ∷ filter p (range_with_len (a + 1) n)) (filter p (range_with_len (a + 1) n)))
    ∙ none_passes p (a + 1) n (λ m less. ap p (let e : a + 1 + m ≡ a + suc m = omega arith in e) ∙ h (suc m) (omega (arith, less)))

-- items of two lists one behind the other
get_first : (xs ys : List ℕ) (i : ℕ) → i < length xs → slice_get (xs ++ ys) i ≡ slice_get xs i
get_first [] ys i h = absurd (omega (arith, h))
get_first (x ∷ xs) ys zero h = refl
get_first (x ∷ xs) ys (suc i) h = get_first xs ys i (omega (arith, h))

get_second : (xs ys : List ℕ) (i : ℕ) → slice_get (xs ++ ys) (length xs + i) ≡ slice_get ys i
get_second [] ys i = ap (slice_get ys) (let e : 0 + i ≡ i = omega arith in e)
get_second (x ∷ xs) ys i = ap (slice_get (x ∷ (xs ++ ys))) (let e : suc (length xs) + i ≡ suc (length xs + i) = omega arith in e) ∙ get_second xs ys i

get_each : (n x i : ℕ) → i < n → slice_get (replicate n x) i ≡ Some x
get_each zero x i h = absurd (omega (arith, h))
get_each (suc n) x zero h = refl
get_each (suc n) x (suc i) h = get_each n x i (omega (arith, h))

replicated : (n x : ℕ) → length (replicate n x) ≡ n
replicated zero x = refl
replicated (suc n) x = ap suc (replicated n x)

equal_number : (n : ℕ) → (n == n) ≡ true
equal_number n = eq-eqb n n refl

other_number : (m n : ℕ) → m < n → (n == m) ≡ false
other_number m n h = by (n == m) refl
  where
    by : (b : Bool) → (n == m) ≡ b → (n == m) ≡ false
    by true e = let same = eqb-true n m e in absurd (omega (arith, same, h))
    by false e = e

number_apart : (m n : ℕ) → m < n → (m == n) ≡ false
number_apart m n h = by (m == n) refl
  where
    by : (b : Bool) → (m == n) ≡ b → (m == n) ≡ false
    by true e = let same = eqb-true m n e in absurd (omega (arith, same, h))
    by false e = e

module _ (j : ℕ) where
  -- where the places from this one on are those of these units
  module _ (first : ℕ) (u : StmtTrees) (us : List StmtTrees) (a : ℕ) (p : ℕ → Bool) (same : (m : ℕ) → p (a + m) ≡ is_unit j (slice_get (homes first (u ∷ us)) m)) where
    here : (m : ℕ) → m < statements_count u → p (a + m) ≡ (first == j)
    here m less =
        let long = replicated (statements_count u) first in
        same m ∙ ap (is_unit j) (get_first (replicate (statements_count u) first) (homes (suc first) us) m (omega (arith, less, long)) ∙ get_each (statements_count u) first m less)

    later : (m : ℕ) → p (a + statements_count u + m) ≡ is_unit j (slice_get (homes (suc first) us) m)
    later m =
        ap p (let e : a + statements_count u + m ≡ a + (statements_count u + m) = omega arith in e)
        ∙ same (statements_count u + m)
        ∙ ap (λ (n : ℕ). is_unit j (slice_get (homes first (u ∷ us)) (n + m))) (sym (replicated (statements_count u) first))
        ∙ ap (is_unit j) (get_second (replicate (statements_count u) first) (homes (suc first) us) m)

    parted : filter p (range_with_len a (length (homes first (u ∷ us)))) ≡ filter p (range_with_len a (statements_count u)) ++ filter p (range_with_len (a + statements_count u) (length (homes (suc first) us)))
    parted =
        ap (λ (n : ℕ). filter p (range_with_len a n)) (length-append (replicate (statements_count u) first) (homes (suc first) us) ∙ ap (λ (n : ℕ). n + length (homes (suc first) us)) (replicated (statements_count u) first))
        ∙ ap (filter p) (parted_range a (statements_count u) (length (homes (suc first) us)))
        ∙ filter-append p (range_with_len a (statements_count u)) (range_with_len (a + statements_count u) (length (homes (suc first) us)))

  none_there : (first : ℕ) (us : List StmtTrees) (a : ℕ) (p : ℕ → Bool) → ((m : ℕ) → p (a + m) ≡ is_unit j (slice_get (homes first us) m)) → j < first → filter p (range_with_len a (length (homes first us))) ≡ []
  none_there first [] a p same less = refl
  none_there first (u ∷ us) a p same less =
      parted first u us a p same
      ∙ (λ i. none_passes p a (statements_count u) (λ m h. here first u us a p same m h ∙ other_number j first less) i
      ++ none_there (suc first) us (a + statements_count u) p (later first u us a p same) (omega (arith, less)) i)

  some_there : (first : ℕ) (us : List StmtTrees) (a : ℕ) (p : ℕ → Bool) → ((m : ℕ) → p (a + m) ≡ is_unit j (slice_get (homes first us) m)) → (i : ℕ) → j ≡ first + i → i < length us → filter p (range_with_len a (length (homes first us))) ≡ range_with_len (a + offset us i) (statements_count (slice_index_or us i no_stmts))
  some_there first [] a p same i is less = absurd (omega (arith, less))
  some_there first (u ∷ us) a p same zero is less =
      parted first u us a p same
      ∙ (λ k. all_pass p a (statements_count u) (λ m h. here first u us a p same m h ∙ (ap (λ (n : ℕ). first == n) (is ∙ (let e : first + 0 ≡ first = omega arith in e)) ∙ equal_number first)) k
      ++ none_there (suc first) us (a + statements_count u) p (later first u us a p same) (omega (arith, is)) k)
      ∙ append-nil (range_with_len a (statements_count u))
      ∙ ap (λ (n : ℕ). range_with_len n (statements_count u)) (let e : a ≡ a + 0 = omega arith in e)
  some_there first (u ∷ us) a p same (suc i) is less =
      parted first u us a p same
      ∙ (λ k. none_passes p a (statements_count u) (λ m h. here first u us a p same m h ∙ number_apart first j (omega (arith, is))) k
      ++ some_there (suc first) us (a + statements_count u) p (later first u us a p same) i (omega (arith, is)) (omega (arith, less)) k)
      ∙ ap (λ (n : ℕ). range_with_len n (statements_count (slice_index_or us i no_stmts))) (let e : a + statements_count u + offset us i ≡ a + (statements_count u + offset us i) = omega arith in e)

-- the statements of a unit have numbers one behind another, from the offset of the unit on
pub numbers_are : (s : ℕ) (body : StmtTrees) (i : ℕ) → i < length (units body) → numbers_of s body i ≡ range_with_len (s + 1 + offset (units body) i) (statements_count (slice_index_or (units body) i no_stmts))
numbers_are s body i inside =
    ap (λ (n : ℕ). filter (stands_in s body i) (range_with_len (s + 1) n)) (sym (homes_long 0 (units body) ∙ units_sum body))
    ∙ some_there i 0 (units body) (s + 1) (stands_in s body i) at i (omega arith) inside
  where
    at : (m : ℕ) → stands_in s body i (s + 1 + m) ≡ is_unit i (slice_get (homes 0 (units body)) m)
    at m =
        ap (λ (b : Bool). is_unit i (if b then slice_get (homes 0 (units body)) (s + 1 + m - (s + 1)) else None)) (lt-ltb s (s + 1 + m) (omega arith))
        ∙ ap (λ (n : ℕ). is_unit i (slice_get (homes 0 (units body)) n)) (let e : s + 1 + m - (s + 1) ≡ m = omega arith in e)

-- how many statements a unit has
abbrev pub size_of_unit : StmtTrees → ℕ → ℕ
size_of_unit body i = statements_count (slice_index_or (units body) i no_stmts)

pub numbers_long : (s : ℕ) (body : StmtTrees) (i : ℕ) → i < length (units body) → length (numbers_of s body i) ≡ size_of_unit body i
numbers_long s body i inside = ap (λ (xs : List ℕ). length xs) (numbers_are s body i inside) ∙ length-range_with_len (s + 1 + offset (units body) i) (size_of_unit body i)

pub block_counted : (body : StmtTrees) (block : List ℕ) → statements_count (units_at body block) ≡ sum_by (size_of_unit body) block
block_counted body [] = refl
block_counted body (i ∷ block) =
    let rest = block_counted body block in
    let whole = followed_count (slice_index_or (units body) i no_stmts) (units_at body block) in
    let parts = sum_by-cons (size_of_unit body) i block in
    omega (arith, rest, whole, parts)

pub heads_counted : (h : Head) (body : StmtTrees) (found : List (List ℕ)) → statements_count (loops_of found h body) ≡ length found + sum_by (size_of_unit body) (flat found)
heads_counted h body [] = refl
heads_counted h body (block ∷ found) =
    let rest = heads_counted h body found in
    let here = block_counted body block in
    let parts = sum_by-append (size_of_unit body) block (flat found) in
    omega (arith, rest, here, parts)

-- sums over numbers of units
pub same_sums : (f g : ℕ → ℕ) (n : ℕ) (is : List ℕ) → AreBelow n is → ((i : ℕ) → i < n → f i ≡ g i) → sum_by f is ≡ sum_by g is
same_sums f g n [] below same = refl
same_sums f g n (i ∷ is) below same =
    let rest = same_sums f g n is (All-tail (λ k. k < n) i is below) same in
    let here = same i (All-head (λ k. k < n) i is below) in
    let one = sum_by-cons f i is in
    let other = sum_by-cons g i is in
    omega (arith, rest, here, one, other)

-- the units one behind another are the body
pub followed_none : (ts : StmtTrees) → followed ts no_stmts ≡ ts
followed_none no_stmts = refl
followed_none (more_stmts s ts) = ap (λ (us : StmtTrees). more_stmts s us) (followed_none ts)

pub units_joined : (body : StmtTrees) → 0 < statements_count body → joined (units body) ≡ body
units_joined no_stmts some = absurd (omega (arith, some))
units_joined (more_stmts s rest) some = by (units_joined rest) (statement_count s == 0) refl
  where
    comment : (0 < statements_count rest → joined (units rest) ≡ rest) → (us : List StmtTrees) → units rest ≡ us → statement_count s ≡ 0 → joined (before_first s us) ≡ more_stmts s rest
    comment behind [] is none =
        let sum : sum_by statements_count (units rest) ≡ statements_count rest = units_sum rest in
        let zero_is : sum_by statements_count (units rest) ≡ 0 = ap (λ (us : List StmtTrees). sum_by statements_count us) is in
        absurd (omega (arith, sum, zero_is, none, some))
    comment behind (u ∷ us) is none = ap (λ (ts : StmtTrees). more_stmts s ts) (ap joined (sym is) ∙ behind (omega (arith, none, some)))

    by_count : (n : ℕ) → (n == 0) ≡ false → 0 < n
    by_count zero k = absurd cc
    by_count (suc n) k = omega arith

    more : (0 < statements_count rest → joined (units rest) ≡ rest) → (b : Bool) → (statements_count rest == 0) ≡ b → joined (if b then more_stmts s rest ∷ [] else alone s ∷ units rest) ≡ more_stmts s rest
    more behind true e = ap (λ (ts : StmtTrees). more_stmts s ts) (followed_none rest)
    more behind false e = ap (λ (ts : StmtTrees). more_stmts s ts) (behind (by_count (statements_count rest) e))

    by : (0 < statements_count rest → joined (units rest) ≡ rest) → (b : Bool) → (statement_count s == 0) ≡ b → joined (if b then before_first s (units rest) else if statements_count rest == 0 then more_stmts s rest ∷ [] else alone s ∷ units rest) ≡ more_stmts s rest
    by behind true e = comment behind (units rest) refl (eqb-true (statement_count s) 0 e)
    by behind false e = more behind (statements_count rest == 0) refl
