-- The statements that the step keeps stand one to one.
use Rattle.std.proofs.Common.{◌≡◌, ◌⊎◌, ℕ, zero, suc, ◌+◌, ◌-◌, ◌≤◌, ◌<◌, ◌==◌, List, [], ◌∷◌, ◌++◌, map, length, filter, cond, All, AllPairs, Bool, true, false, Option, Some, None, inl, inr, refl, sym, ap, subst, ◌∙◌, eqb-true, eq-eqb, if◌then◌else◌, arith}
use Rattle.std.specs.Prelude.{◌≢◌}
use Rattle.std.specs.List.{flat_map, range_with_len, sum_by}
use Rattle.std.proofs.lemmas.List.Sums.{sum_by-cons, sum_by-append}
use Rattle.std.proofs.lemmas.List.Elements.{All-nil, All-cons}
use Rattle.std.proofs.lemmas.List.Kept.{AllPairs-cons}
use Rattle.std.proofs.lemmas.Bool.{cases_lt}
use Rattle.ped_tree.specs.Numbering.{all_numbered, at_place, statements_count}
use Rattle.ped_tree.specs.Tree.{Head, StmtTree, StmtTrees, Do, ProgramTree}
use Rattle.ped_rules.specs.ped_flow.specs.Questions.{IsLoop, LoopOf}
use Rattle.ped_rules.specs.ped_flow.proofs.Answering.{loop_fits}
use Rattle.ped_rules.specs.ped_graph.specs.Keeping.{IsOneToOne}
use Rattle.ped_splits.specs.Units.{unit_of, is_unit, stands_in}
use Rattle.ped_splits.specs.PiBlocks.{pi_blocks, ArePiBlocks}
use Rattle.ped_splits.specs.Distributing.{numbers_of, pi_block_sources, loop_sources, unmoved, sources, kept_from, MakesDistributed}
use Rattle.ped_splits.proofs.PiBlockOrders.{all_by}
use Rattle.ped_splits.proofs.Partitions.{tally, flat, sum_plus, sum_none, later_none, one_at_most, one_home, sums_below}

-- how often a number stands among numbers
abbrev pub times : ℕ → List ℕ → ℕ
times v ks = sum_by (λ k. tally (v == k)) ks

-- this number, where there is one
abbrev pub is_number : ℕ → Option ℕ → Bool
is_number v None = false
is_number v (Some k) = v == k

abbrev pub times_in : ℕ → List (Option ℕ) → ℕ
times_in v os = sum_by (λ o. tally (is_number v o)) os

module _ (v : ℕ) where
  past_none : (a n : ℕ) → a + n ≤ v → times v (range_with_len a n) ≡ 0
  past_none a zero h = refl
  past_none a (suc n) h =
      let rest = past_none (a + 1) n (omega (arith, h)) in
      let whole = sum_by-cons (λ k. tally (v == k)) a (range_with_len (a + 1) n) in
      let other : tally (v == a) ≡ 0 = differs (v == a) refl in
      omega (arith, rest, whole, other)
    where
      differs : (b : Bool) → (v == a) ≡ b → tally b ≡ 0
      differs true e = let same = eqb-true v a e in absurd (omega (arith, same, h))
      differs false e = refl

  some_times : (ks : List ℕ) → times_in v (map Some ks) ≡ times v ks
  some_times [] = refl
  some_times (k ∷ ks) =
      let rest = some_times ks in
      let one = sum_by-cons (λ o. tally (is_number v o)) (Some k) (map Some ks) in
      let other = sum_by-cons (λ j. tally (v == j)) k ks in
      omega (arith, rest, one, other)

  all_times : (f : ℕ → List ℕ) (is : List ℕ) → times v (flat_map f is) ≡ sum_by (λ i. times v (f i)) is
  all_times f [] = refl
  all_times f (i ∷ is) =
      let rest = all_times f is in
      let whole = sum_by-append (λ k. tally (v == k)) (f i) (flat_map f is) in
      let parts = sum_by-cons (λ j. times v (f j)) i is in
      omega (arith, rest, whole, parts)

  module _ (s : ℕ) (body : StmtTrees) where
    taken : (k : ℕ) (b : Bool) (xs : List ℕ) → times v (cond b (k ∷ xs) xs) ≡ cond b (tally (v == k)) 0 + times v xs
    taken k true xs = sum_by-cons (λ j. tally (v == j)) k xs
    taken k false xs = omega arith

    abbrev no_number : ℕ
    no_number = 0

    nothing : (b : Bool) → cond b no_number 0 ≡ no_number
    nothing true = refl
    nothing false = refl

    here_once : (k n : ℕ) (b : Bool) → (v == k) ≡ b → sum_by (λ i. cond (stands_in s body i k) (tally (v == k)) 0) (range_with_len 0 n) ≤ tally (v == k)
    here_once k n true e =
        let one : sum_by (λ i. tally (stands_in s body i k)) (range_with_len 0 n) ≤ 1 = one_home (unit_of s body k) n in
        let same : sum_by (λ i. cond (stands_in s body i k) (tally (v == k)) 0) (range_with_len 0 n) ≡ sum_by (λ i. tally (stands_in s body i k)) (range_with_len 0 n) = λ j. sum_by (λ i. cond (stands_in s body i k) (tally (e j)) 0) (range_with_len 0 n) in
        let here : tally (v == k) ≡ 1 = ap tally e in
        omega (arith, one, same, here)
    here_once k n false e =
        let none = sum_none (range_with_len 0 n) in
        let same : sum_by (λ i. cond (stands_in s body i k) (tally (v == k)) 0) (range_with_len 0 n) ≡ sum_by (λ (i : ℕ). 0) (range_with_len 0 n) =
        (λ j. sum_by (λ i. cond (stands_in s body i k) (tally (e j)) 0) (range_with_len 0 n)) ∙ (λ j. sum_by (λ (i : ℕ). nothing (stands_in s body i k) j) (range_with_len 0 n)) in
        omega (arith, none, same)

    -- in the units together it stands no more often than among the statements
    pub unit_times : (n : ℕ) (ks : List ℕ) → sum_by (λ i. times v (filter (stands_in s body i) ks)) (range_with_len 0 n) ≤ times v ks
    unit_times n [] = let none = sum_none (range_with_len 0 n) in omega (arith, none)
    unit_times n (k ∷ ks) =
        let rest = unit_times n ks in
        let here = here_once k n (v == k) refl in
        let each : sum_by (λ i. times v (filter (stands_in s body i) (k ∷ ks))) (range_with_len 0 n) ≡ sum_by (λ i. cond (stands_in s body i k) (tally (v == k)) 0 + times v (filter (stands_in s body i) ks)) (range_with_len 0 n) =
        λ j. sum_by (λ i. taken k (stands_in s body i k) (filter (stands_in s body i) ks) j) (range_with_len 0 n) in
        let both = sum_plus (λ i. cond (stands_in s body i k) (tally (v == k)) 0) (λ i. times v (filter (stands_in s body i) ks)) (range_with_len 0 n) in
        let whole = sum_by-cons (λ j. tally (v == j)) k ks in
        omega (arith, rest, here, each, both, whole)

    abbrev in_unit : ℕ → ℕ
    in_unit i = times v (numbers_of s body i)

    block_times : (head : Option ℕ) (block : List ℕ) → times_in v (pi_block_sources s body head block) ≡ tally (is_number v head) + sum_by in_unit block
    block_times head block =
        let whole = sum_by-cons (λ o. tally (is_number v o)) head (map Some (flat_map (numbers_of s body) block)) in
        let numbers = some_times (flat_map (numbers_of s body) block) in
        let parts = all_times (numbers_of s body) block in
        omega (arith, whole, numbers, parts)

    others_times : (bs : List (List ℕ)) → times_in v (flat_map (pi_block_sources s body None) bs) ≡ sum_by in_unit (flat bs)
    others_times [] = refl
    others_times (b ∷ bs) =
        let rest = others_times bs in
        let here = block_times None b in
        let whole = sum_by-append (λ o. tally (is_number v o)) (pi_block_sources s body None b) (flat_map (pi_block_sources s body None) bs) in
        let parts = sum_by-append in_unit b (flat bs) in
        omega (arith, rest, here, whole, parts)

    pub loops_times : (bs : List (List ℕ)) → times_in v (loop_sources s body bs) ≤ tally (v == s) + sum_by in_unit (flat bs)
    loops_times [] = omega arith
    loops_times (b ∷ bs) =
        let rest = others_times bs in
        let here = block_times (Some s) b in
        let whole = sum_by-append (λ o. tally (is_number v o)) (pi_block_sources s body (Some s) b) (flat_map (pi_block_sources s body None) bs) in
        let parts = sum_by-append in_unit b (flat bs) in
        omega (arith, rest, here, whole, parts)

    head_once : (b : Bool) → (v == s) ≡ b → (v < s) ⊎ (s < v) → tally b ≡ 0
    head_once true e h = let same = eqb-true v s e in elim h [
      | inl less ↦ absurd (omega (arith, same, less))
      | inr more ↦ absurd (omega (arith, same, more))
    ]
    head_once false e h = refl

    at_most_one : (b : Bool) → tally b ≤ 1
    at_most_one true = omega arith
    at_most_one false = omega arith

    -- each number stands among the sources of the DO loops once at most
    pub loops_once : (reach : List (List Bool)) → times_in v (loop_sources s body (pi_blocks reach)) ≤ 1
    loops_once reach =
        let loops = loops_times (pi_blocks reach) in
        let sum : sum_by in_unit (flat (pi_blocks reach)) ≤ sum_by in_unit (range_with_len 0 (length reach)) = sums_below reach in_unit (length reach) (range_with_len 0 (length reach)) in
        let parted : sum_by in_unit (range_with_len 0 (length reach)) ≤ times v (range_with_len (s + 1) (statements_count body)) = unit_times (length reach) (range_with_len (s + 1) (statements_count body)) in
        let all = by (cases_lt s v) in
        omega (arith, loops, sum, parted, all)
      where
        by : (s < v) ⊎ (v ≤ s) → tally (v == s) + times v (range_with_len (s + 1) (statements_count body)) ≤ 1
        by (inl more) = let head = head_once (v == s) refl (inr more) in let one = one_at_most v (s + 1) (statements_count body) in omega (arith, head, one)
        by (inr to) = let head = at_most_one (v == s) in let none = later_none v (s + 1) (statements_count body) (omega (arith, to)) in omega (arith, head, none)

    -- each number stands among the sources once at most
    pub once : (t : ProgramTree) (reach : List (List Bool)) → 1 ≤ s → s + statements_count body ≤ statements_count t.body → times_in v (sources t s body (pi_blocks reach)) ≤ 1
    once t reach from_one inside =
        let size = statements_count body in
        let rear_count = statements_count t.body - (s + statements_count body) in
        let front : times_in v (unmoved 1 (s - 1)) ≡ times v (range_with_len 1 (s - 1)) = some_times (range_with_len 1 (s - 1)) in
        let rear : times_in v (unmoved (s + 1 + statements_count body) rear_count) ≡ times v (range_with_len (s + 1 + statements_count body) rear_count) = some_times (range_with_len (s + 1 + statements_count body) rear_count) in
        let loops : times_in v (loop_sources s body (pi_blocks reach)) ≤ tally (v == s) + sum_by in_unit (flat (pi_blocks reach)) = loops_times (pi_blocks reach) in
        let sum : sum_by in_unit (flat (pi_blocks reach)) ≤ sum_by in_unit (range_with_len 0 (length reach)) = sums_below reach in_unit (length reach) (range_with_len 0 (length reach)) in
        let parted : sum_by in_unit (range_with_len 0 (length reach)) ≤ times v (range_with_len (s + 1) (statements_count body)) = unit_times (length reach) (range_with_len (s + 1) (statements_count body)) in
        let before : List (Option ℕ) = unmoved 1 (s - 1) ++ loop_sources s body (pi_blocks reach) in
        let first : times_in v (sources t s body (pi_blocks reach)) ≡ times_in v before + times_in v (unmoved (s + 1 + statements_count body) rear_count) = sum_by-append (λ o. tally (is_number v o)) before (unmoved (s + 1 + statements_count body) rear_count) in
        let second : times_in v before ≡ times_in v (unmoved 1 (s - 1)) + times_in v (loop_sources s body (pi_blocks reach)) = sum_by-append (λ o. tally (is_number v o)) (unmoved 1 (s - 1)) (loop_sources s body (pi_blocks reach)) in
        let all : times v (range_with_len 1 (s - 1)) + (tally (v == s) + times v (range_with_len (s + 1) size) + times v (range_with_len (s + 1 + size) rear_count)) ≤ 1 = apart rear_count (cases_lt v s) (cases_lt s v) (cases_lt v (s + 1 + size)) in
        omega (arith, front, rear, loops, sum, parted, first, second, all)
      where
        apart : (rest : ℕ) → (v < s) ⊎ (s ≤ v) → (s < v) ⊎ (v ≤ s) → (v < s + 1 + statements_count body) ⊎ (s + 1 + statements_count body ≤ v)
            → times v (range_with_len 1 (s - 1)) + (tally (v == s) + times v (range_with_len (s + 1) (statements_count body)) + times v (range_with_len (s + 1 + statements_count body) rest)) ≤ 1
        apart rest (inl less) b c =
            let one = one_at_most v 1 (s - 1) in
            let head = head_once (v == s) refl (inl less) in
            let body_none = later_none v (s + 1) (statements_count body) (omega (arith, less)) in
            let rear_none = later_none v (s + 1 + statements_count body) rest (omega (arith, less)) in
            omega (arith, one, head, body_none, rear_none)
        apart rest (inr from) (inr to) c =
            let front_none = past_none 1 (s - 1) (omega (arith, from, from_one)) in
            let head = at_most_one (v == s) in
            let body_none = later_none v (s + 1) (statements_count body) (omega (arith, to)) in
            let rear_none = later_none v (s + 1 + statements_count body) rest (omega (arith, to)) in
            omega (arith, front_none, head, body_none, rear_none)
        apart rest (inr from) (inl more) (inl inside_body) =
            let front_none = past_none 1 (s - 1) (omega (arith, from, from_one)) in
            let head = head_once (v == s) refl (inr more) in
            let one = one_at_most v (s + 1) (statements_count body) in
            let rear_none = later_none v (s + 1 + statements_count body) rest inside_body in
            omega (arith, front_none, head, one, rear_none)
        apart rest (inr from) (inl more) (inr past) =
            let front_none = past_none 1 (s - 1) (omega (arith, from, from_one)) in
            let head = head_once (v == s) refl (inr more) in
            let body_none = past_none (s + 1) (statements_count body) past in
            let one = one_at_most v (s + 1 + statements_count body) rest in
            omega (arith, front_none, head, body_none, one)

-- what stands nowhere among the sources is kept nowhere
kept_nowhere : (k m : ℕ) (os : List (Option ℕ)) → times_in k os ≡ 0 → All (λ (q : ℕ × ℕ). k ≢ q.0) (kept_from m os)
kept_nowhere k m [] h = All-nil (λ (q : ℕ × ℕ). k ≢ q.0)
kept_nowhere k m (None ∷ os) h = kept_nowhere k (suc m) os (let whole = sum_by-cons (λ o. tally (is_number k o)) None os in omega (arith, whole, h))
kept_nowhere k m (Some j ∷ os) h =
    let whole : times_in k (Some j ∷ os) ≡ tally (k == j) + times_in k os = sum_by-cons (λ o. tally (is_number k o)) (Some j) os in
    All-cons (λ (q : ℕ × ℕ). k ≢ q.0) (j, m) (kept_from (suc m) os) (λ same. let here : tally (k == j) ≡ 1 = ap tally (eq-eqb k j same) in absurd (omega (arith, whole, h, here))) (kept_nowhere k (suc m) os (omega (arith, whole, h)))

kept_before : (m : ℕ) (os : List (Option ℕ)) → ((v : ℕ) → times_in v os ≤ 1) → AllPairs (λ (p : ℕ × ℕ) (q : ℕ × ℕ). p.0 ≢ q.0) (kept_from m os)
kept_before m [] h = λ i j d less within. absurd (omega (arith, within))
kept_before m (None ∷ os) h = kept_before (suc m) os (λ v. let whole = sum_by-cons (λ o. tally (is_number v o)) None os in let all = h v in omega (arith, whole, all))
kept_before m (Some k ∷ os) h =
    let whole : times_in k (Some k ∷ os) ≡ tally (k == k) + times_in k os = sum_by-cons (λ o. tally (is_number k o)) (Some k) os in
    let here : tally (k == k) ≡ 1 = ap tally (eq-eqb k k refl) in
    let all = h k in
    AllPairs-cons (λ (p : ℕ × ℕ) (q : ℕ × ℕ). p.0 ≢ q.0) (k, m) (kept_from (suc m) os) (kept_nowhere k (suc m) os (omega (arith, whole, here, all)))
    (kept_before (suc m) os (λ v. let one = sum_by-cons (λ o. tally (is_number v o)) (Some k) os in let each = h v in omega (arith, one, each)))

from_there : (m : ℕ) (os : List (Option ℕ)) → All (λ (q : ℕ × ℕ). m ≤ q.1) (kept_from m os)
from_there m [] = All-nil (λ (q : ℕ × ℕ). m ≤ q.1)
from_there m (None ∷ os) = all_by (λ (q : ℕ × ℕ). suc m ≤ q.1) (λ (q : ℕ × ℕ). m ≤ q.1) (kept_from (suc m) os) (λ q le. omega (arith, le)) (from_there (suc m) os)
from_there m (Some k ∷ os) = All-cons (λ (q : ℕ × ℕ). m ≤ q.1) (k, m) (kept_from (suc m) os) (omega arith) (all_by (λ (q : ℕ × ℕ). suc m ≤ q.1) (λ (q : ℕ × ℕ). m ≤ q.1) (kept_from (suc m) os) (λ q le. omega (arith, le)) (from_there (suc m) os))

kept_behind : (m : ℕ) (os : List (Option ℕ)) → AllPairs (λ (p : ℕ × ℕ) (q : ℕ × ℕ). p.1 ≢ q.1) (kept_from m os)
kept_behind m [] = λ i j d less within. absurd (omega (arith, within))
kept_behind m (None ∷ os) = kept_behind (suc m) os
kept_behind m (Some k ∷ os) =
    AllPairs-cons (λ (p : ℕ × ℕ) (q : ℕ × ℕ). p.1 ≢ q.1) (k, m) (kept_from (suc m) os)
    (all_by (λ (q : ℕ × ℕ). suc m ≤ q.1) (λ (q : ℕ × ℕ). m ≢ q.1) (kept_from (suc m) os) (λ q le same. omega (arith, le, same)) (from_there (suc m) os)) (kept_behind (suc m) os)

nothing_there : (d : StmtTree) → None ≡ Some d → ⊥
nothing_there d e = cc

-- a DO has a number
is_numbered : (t : ProgramTree) (l : ℕ) (h : Head) (body : StmtTrees) → IsLoop t l h body → 1 ≤ l
is_numbered t l h body is = by (l == 0) refl
  where
    by : (r : Bool) → (l == 0) ≡ r → 1 ≤ l
    by true z = absurd (nothing_there (Do h body) (sym (ap (λ (b : Bool). if b then None else at_place (all_numbered t.body) (l - 1)) z) ∙ is))
    by false z = grind (arith, eqb-true)

pub one_to_one : (s : ℕ) (t new : ProgramTree) (keep : List (ℕ × ℕ)) → MakesDistributed s t new keep → IsOneToOne keep
one_to_one s t new keep made =
    let l = made.0 in
    let are = made.2 in
    let os = sources t s l.body (pi_blocks are.reach) in
    let kept : keep ≡ kept_from 1 os = made.4 ∙ ap (λ (bs : List (List ℕ)). kept_from 1 (sources t s l.body bs)) are.order in
    subst IsOneToOne (sym kept) (record {
      before = kept_before 1 os (λ v. once v s l.body t are.reach (is_numbered t s l.head l.body l.is) (loop_fits t s l.head l.body l.is));
      behind = kept_behind 1 os;
    })
