-- Where units stand in the new DO loops: the number of the DO, and that of the unit's first statement; and under which numbers they count.
use Rattle.std.proofs.Common.{◌≡◌, ℕ, zero, suc, ◌+◌, ◌<◌, ◌≤◌, ◌==◌, List, [], ◌∷◌, ◌++◌, map, length, All, Bool, true, false, Option, Some, None, if◌then◌else◌, inl, inr, refl, sym, ap, subst, ◌∙◌, eq-eqb, arith}
use Rattle.std.proofs.lemmas.List.{append_assoc, map-append}
use Rattle.std.proofs.lemmas.List.Elements.{All-head, All-tail}
use Rattle.std.proofs.lemmas.List.Sums.{sum_by-cons, sum_by-append}
use Rattle.std.specs.List.{flat_map, range_with_len, sum_by}
use Rattle.ped_tree.specs.Tree.{Head, StmtTrees, ProgramTree}
use Rattle.ped_tree.specs.Numbering.{statements_count}
use Rattle.ped_rules.specs.ped_loop_runs.specs.Numbers.{counted_by}
use Rattle.ped_rules.specs.ped_loop_runs.proofs.PastingLaws.CountedNumbers.{inside_counts}
use Rattle.ped_rules.specs.ped_laws.specs.Acts.Orders.{IsIn}
use Rattle.ped_splits.proofs.PiBlockLaws.{In}
use Rattle.ped_splits.proofs.PiBlockSizes.{found_below}
use Rattle.ped_splits.proofs.OneToOne.{times}
use Rattle.ped_splits.proofs.Partitions.{tally, flat, sums_below, one_at_most}
use Rattle.ped_splits.proofs.SplitNumbers.{split_pairs, split_numbers, split_fits}
use Rattle.ped_splits.proofs.SplitUnits.{offset, size_of_unit, numbers_are}
use Rattle.ped_splits.specs.PiBlocks.{ArePiBlocks, pi_blocks}
use Rattle.ped_splits.specs.CodeUnits.{AreBelow}
use Rattle.ped_splits.specs.Distributing.{numbers_of, pi_block_sources, loop_sources}
use Rattle.ped_splits.specs.Units.{units}

module _ (body : StmtTrees) where
  -- the number behind these units, where the first of them has this one
  abbrev pub end_of : ℕ → List ℕ → ℕ
  end_of m [] = m
  end_of m (j ∷ block) = end_of (m + size_of_unit body j) block

  -- the number of the DO of a unit, and that of the unit there
  abbrev pub look_block : (at m : ℕ) → List ℕ → (ℕ → ℕ × ℕ) → ℕ → ℕ × ℕ
  look_block at m [] other k = other m
  look_block at m (j ∷ block) other k = if k == j then (at, m) else look_block at (m + size_of_unit body j) block other k

  abbrev pub look : (at : ℕ) → List (List ℕ) → ℕ → ℕ × ℕ
  look at [] k = (0, 0)
  look at (block ∷ found) k = look_block at (at + 1) block (λ m. look m found k) k

  -- these units stand so
  abbrev pub ArePlaced : (ℕ → ℕ × ℕ) → (at m : ℕ) → List ℕ → Type 0
  ArePlaced place at m [] = Unit {0}
  ArePlaced place at m (k ∷ block) = (place k ≡ (at, m)) × ArePlaced place at (m + size_of_unit body k) block

  abbrev pub AllPlaced : (ℕ → ℕ × ℕ) → (at : ℕ) → List (List ℕ) → Type 0
  AllPlaced place at [] = Unit {0}
  AllPlaced place at (block ∷ found) = ArePlaced place at (at + 1) block × AllPlaced place (end_of (at + 1) block) found

  once_more : (k j : ℕ) (ks : List ℕ) → times k (j ∷ ks) ≤ 1 → In k ks → (k == j) ≡ false
  once_more k j ks most i = by (k == j) refl
    where
      some_times : (xs : List ℕ) → In k xs → 1 ≤ times k xs
      some_times [] i = absurd i
      some_times (x ∷ xs) (inl e) =
          let whole = sum_by-cons (λ (n : ℕ). tally (k == n)) x xs in
          let here : tally (k == x) ≡ 1 = ap tally (eq-eqb k x e) in
          omega (arith, whole, here)
      some_times (x ∷ xs) (inr i) = let whole = sum_by-cons (λ (n : ℕ). tally (k == n)) x xs in let rest = some_times xs i in omega (arith, whole, rest)

      by : (b : Bool) → (k == j) ≡ b → (k == j) ≡ false
      by false e = e
      by true e =
          let whole : times k (j ∷ ks) ≡ tally (k == j) + times k ks = sum_by-cons (λ (n : ℕ). tally (k == n)) j ks in
          let here : tally (k == j) ≡ 1 = ap tally e in
          let more = some_times ks i in
          absurd (omega (arith, whole, here, more, most))

  fewer : (k j : ℕ) (ks : List ℕ) → times k (j ∷ ks) ≤ 1 → times k ks ≤ 1
  fewer k j ks most = let whole : times k (j ∷ ks) ≡ tally (k == j) + times k ks = sum_by-cons (λ (n : ℕ). tally (k == n)) j ks in omega (arith, whole, most)

  block_placed : (place : ℕ → ℕ × ℕ) (at m : ℕ) (block : List ℕ) (other : ℕ → ℕ → ℕ × ℕ) (behind : List ℕ) → ((k : ℕ) → In k (block ++ behind) → place k ≡ look_block at m block (λ n. other n k) k) → ((k : ℕ) → times k (block ++ behind) ≤ 1)
      → ArePlaced place at m block × ((k : ℕ) → In k behind → place k ≡ other (end_of m block) k)
  block_placed place at m [] other behind there once = (tt, (λ k i. there k i))
  block_placed place at m (j ∷ block) other behind there once =
      let rest = block_placed place at (m + size_of_unit body j) block other behind
      (λ k i. there k (inr i) ∙ ap (λ (b : Bool). if b then (at, m) else look_block at (m + size_of_unit body j) block (λ n. other n k) k) (once_more k j (block ++ behind) (once k) i))
      (λ k. fewer k j (block ++ behind) (once k)) in (
        (there j (inl refl) ∙ ap (λ (b : Bool). if b then (at, m) else look_block at (m + size_of_unit body j) block (λ n. other n j) j) (eq-eqb j j refl), rest.0),
        rest.1,
      )

  behind_once : (k : ℕ) (xs ys : List ℕ) → times k (xs ++ ys) ≤ 1 → times k ys ≤ 1
  behind_once k xs ys most = let parts : times k (xs ++ ys) ≡ times k xs + times k ys = sum_by-append (λ (n : ℕ). tally (k == n)) xs ys in omega (arith, parts, most)

  pub all_found : (place : ℕ → ℕ × ℕ) (at : ℕ) (found : List (List ℕ)) → ((k : ℕ) → In k (flat found) → place k ≡ look at found k) → ((k : ℕ) → times k (flat found) ≤ 1) → AllPlaced place at found
  all_found place at [] there once = tt
  all_found place at (block ∷ found) there once =
      let here = block_placed place at (at + 1) block (λ m k. look m found k) (flat found) there once in
      (here.0, all_found place (end_of (at + 1) block) found here.1 (λ k. behind_once k block (flat found) (once k)))

-- each unit stands in one block
pub found_once : (t : ProgramTree) (s : ℕ) (h : Head) (body : StmtTrees) (found : List (List ℕ)) → ArePiBlocks t s h body found → (k : ℕ) → times k (flat found) ≤ 1
found_once t s h body found are k =
    let n = length are.reach in
    let one = one_at_most k 0 n in
    let few : sum_by (λ i. tally (k == i)) (flat (pi_blocks are.reach)) ≤ sum_by (λ i. tally (k == i)) (range_with_len 0 n) = sums_below are.reach (λ i. tally (k == i)) n (range_with_len 0 n) in
    subst (λ (bs : List (List ℕ)). times k (flat bs) ≤ 1) (sym are.order) (omega (arith, one, few))

module _ (s : ℕ) (body : StmtTrees) (g : ℕ → ℕ) where
  -- so count new numbers
  abbrev Counted : (at fresh : ℕ) → List (Option ℕ) → Type 0
  Counted at fresh os = (y : ℕ × ℕ) → IsIn y (split_pairs at fresh os) → g y.0 ≡ y.1

  -- the statements of a unit that stands from this number on count under their old numbers
  abbrev pub Stands : (k m : ℕ) → Type 0
  Stands k m = (j : ℕ) → j < size_of_unit body k → g (m + j) ≡ s + 1 + offset (units body) k + j

  abbrev pub AreStanding : (m : ℕ) → List ℕ → Type 0
  AreStanding m [] = Unit {0}
  AreStanding m (k ∷ block) = Stands k m × AreStanding (m + size_of_unit body k) block

  abbrev pub AllStanding : (at : ℕ) → List (List ℕ) → Type 0
  AllStanding at [] = Unit {0}
  AllStanding at (block ∷ found) = AreStanding (at + 1) block × AllStanding (end_of body (at + 1) block) found

  range_counts : (a c m fresh : ℕ) (more : List (Option ℕ)) → Counted m fresh (map Some (range_with_len a c) ++ more) → ((j : ℕ) → j < c → g (m + j) ≡ a + j) × Counted (m + c) fresh more
  range_counts a zero m fresh more h = ((λ j less. absurd (omega (arith, less))), subst (λ (n : ℕ). Counted n fresh more) (let e : m ≡ m + 0 = omega arith in e) h)
  range_counts a (suc c) m fresh more h =
      let rest = range_counts (a + 1) c (m + 1) fresh more (λ y i. h y (inr i)) in
      (each rest.0, subst (λ (n : ℕ). Counted n fresh more) (let e : m + 1 + c ≡ m + suc c = omega arith in e) rest.1)
    where
      each : ((j : ℕ) → j < c → g (m + 1 + j) ≡ a + 1 + j) → (j : ℕ) → j < suc c → g (m + j) ≡ a + j
      each rest zero less = ap g (let e : m + 0 ≡ m = omega arith in e) ∙ h (m, a) (inl refl) ∙ (let e : a ≡ a + 0 = omega arith in e)
      each rest (suc j) less = ap g (let e : m + suc j ≡ m + 1 + j = omega arith in e) ∙ rest j (omega (arith, less)) ∙ (let e : a + 1 + j ≡ a + suc j = omega arith in e)

  units_stand : (m fresh : ℕ) (block : List ℕ) (more : List (Option ℕ)) → AreBelow (length (units body)) block → Counted m fresh (map Some (flat_map (numbers_of s body) block) ++ more) → AreStanding m block × Counted (end_of body m block) fresh more
  units_stand m fresh [] more below h = (tt, h)
  units_stand m fresh (k ∷ block) more below h =
      let numbers = numbers_are s body k (All-head (λ i. i < length (units body)) k block below) in
      let here : map Some (flat_map (numbers_of s body) (k ∷ block)) ++ more ≡ map Some (range_with_len (s + 1 + offset (units body) k) (size_of_unit body k)) ++ (map Some (flat_map (numbers_of s body) block) ++ more) =
      ap (λ (os : List (Option ℕ)). os ++ more) (map-append Some (numbers_of s body k) (flat_map (numbers_of s body) block) ∙ (λ i. map Some (numbers i) ++ map Some (flat_map (numbers_of s body) block)))
      ∙ append_assoc (map Some (range_with_len (s + 1 + offset (units body) k) (size_of_unit body k))) (map Some (flat_map (numbers_of s body) block)) more in
      let first = range_counts (s + 1 + offset (units body) k) (size_of_unit body k) m fresh (map Some (flat_map (numbers_of s body) block) ++ more) (subst (λ (os : List (Option ℕ)). Counted m fresh os) here h) in
      let rest = units_stand (m + size_of_unit body k) fresh block more (All-tail (λ i. i < length (units body)) k block below) first.1 in
      ((first.0, rest.0), rest.1)

  -- a new DO counts under this number
  IsHeadAt : (at fresh : ℕ) → Option ℕ → Type 0
  IsHeadAt at fresh None = g at ≡ fresh
  IsHeadAt at fresh (Some k) = g at ≡ k

  block_stands : (at fresh : ℕ) (head : Option ℕ) (block : List ℕ) (more : List (Option ℕ)) → AreBelow (length (units body)) block → Counted at fresh (pi_block_sources s body head block ++ more) → (later : ℕ) × (fresh ≤ later) × AreStanding (at + 1) block × Counted (end_of body (at + 1) block) later more
  block_stands at fresh None block more below h = let r = units_stand (at + 1) (fresh + 1) block more below (λ y i. h y (inr i)) in (fresh + 1, omega arith, r.0, r.1)
  block_stands at fresh (Some k) block more below h = let r = units_stand (at + 1) fresh block more below (λ y i. h y (inr i)) in (fresh, omega arith, r.0, r.1)

  others_stand : (at fresh : ℕ) (found : List (List ℕ)) → All (AreBelow (length (units body))) found → Counted at fresh (flat_map (pi_block_sources s body None) found) → AllStanding at found
  others_stand at fresh [] below h = tt
  others_stand at fresh (block ∷ found) below h =
      let here = block_stands at fresh None block (flat_map (pi_block_sources s body None) found) (All-head (AreBelow (length (units body))) block found below) h in
      (here.2, others_stand (end_of body (at + 1) block) here.0 found (All-tail (AreBelow (length (units body))) block found below) here.3)

  loops_stand : (at fresh : ℕ) (found : List (List ℕ)) → All (AreBelow (length (units body))) found → Counted at fresh (loop_sources s body found) → AllStanding at found
  loops_stand at fresh [] below h = tt
  loops_stand at fresh (block ∷ found) below h =
      let here = block_stands at fresh (Some s) block (flat_map (pi_block_sources s body None) found) (All-head (AreBelow (length (units body))) block found below) h in
      (here.2, others_stand (end_of body (at + 1) block) here.0 found (All-tail (AreBelow (length (units body))) block found below) here.3)

  -- DO loops but the first count under fresh numbers
  abbrev pub AreFresh : (low at : ℕ) → List (List ℕ) → Type 0
  AreFresh low at [] = Unit {0}
  AreFresh low at (block ∷ found) = (low ≤ g at) × AreFresh low (end_of body (at + 1) block) found

  others_fresh : (low at fresh : ℕ) (found : List (List ℕ)) → All (AreBelow (length (units body))) found → low ≤ fresh → Counted at fresh (flat_map (pi_block_sources s body None) found) → AreFresh low at found
  others_fresh low at fresh [] below less h = tt
  others_fresh low at fresh (block ∷ found) below less h =
      let here = block_stands at fresh None block (flat_map (pi_block_sources s body None) found) (All-head (AreBelow (length (units body))) block found below) h in
      let first : g at ≡ fresh = h (at, fresh) (inl refl) in
      let later = here.1 in
      (omega (arith, less, first), others_fresh low (end_of body (at + 1) block) here.0 found (All-tail (AreBelow (length (units body))) block found below) (omega (arith, less, later)) here.3)

  -- the first DO counts under the old number, the others under fresh ones
  abbrev pub HaveNumbers : (low at : ℕ) → List (List ℕ) → Type 0
  HaveNumbers low at [] = Unit {0}
  HaveNumbers low at (block ∷ found) = (g at ≡ s) × AreFresh low (end_of body (at + 1) block) found

  loops_fresh : (low at fresh : ℕ) (found : List (List ℕ)) → All (AreBelow (length (units body))) found → low ≤ fresh → Counted at fresh (loop_sources s body found) → HaveNumbers low at found
  loops_fresh low at fresh [] below less h = tt
  loops_fresh low at fresh (block ∷ found) below less h =
      let here = block_stands at fresh (Some s) block (flat_map (pi_block_sources s body None) found) (All-head (AreBelow (length (units body))) block found below) h in
      let later = here.1 in
      (h (at, s) (inl refl), others_fresh low (end_of body (at + 1) block) here.0 found (All-tail (AreBelow (length (units body))) block found below) (omega (arith, less, later)) here.3)

-- in the new program units and DO loops count so
module _ (t : ProgramTree) (s : ℕ) (h : Head) (body : StmtTrees) (found : List (List ℕ)) (are : ArePiBlocks t s h body found) (inside : s + statements_count body ≤ statements_count t.body) where
  abbrev g : ℕ → ℕ
  g = counted_by (split_numbers t s body found)

  counted : (y : ℕ × ℕ) → IsIn y (split_pairs s (statements_count t.body + 1) (loop_sources s body found)) → g y.0 ≡ y.1
  counted = inside_counts s (statements_count body + 1) (length (loop_sources s body found)) (statements_count t.body) (split_pairs s (statements_count t.body + 1) (loop_sources s body found)) (split_fits t s h body found are inside)

  pub units_standing : AllStanding s body (counted_by (split_numbers t s body found)) s found
  units_standing = loops_stand s body g s (statements_count t.body + 1) found (found_below t s h body found are) counted

  pub heads_numbered : HaveNumbers s body (counted_by (split_numbers t s body found)) (statements_count t.body + 1) s found
  heads_numbered = loops_fresh s body g (statements_count t.body + 1) s (statements_count t.body + 1) found (found_below t s h body found are) (omega arith) counted

  pub units_placed : AllPlaced body (look body s found) s found
  units_placed = all_found body (look body s found) s found (λ k i. refl) (found_once t s h body found are)
