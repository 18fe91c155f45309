-- Numbers of the statements of a program in which a DO is taken apart: statements of the body count under their old numbers, the first new DO under that of the old one, and the others under numbers that no statement had.
use Rattle.std.proofs.Common.{◌≡◌, ◌⊎◌, ℕ, zero, suc, ◌+◌, ◌<◌, ◌≤◌, ◌==◌, List, [], ◌∷◌, ◌++◌, map, length, filter, cond, All, Bool, true, false, Option, Some, None, inl, inr, refl, sym, ap, subst, ◌∙◌, eq-eqb, arith}
use Rattle.std.proofs.lemmas.List.{map-append}
use Rattle.std.proofs.lemmas.List.Elements.{All-head, All-tail, All-nil, All-append}
use Rattle.std.proofs.lemmas.List.Sums.{sum_by-cons}
use Rattle.std.specs.List.{flat_map, range_with_len}
use Rattle.ped_tree.specs.Tree.{Head, StmtTrees, ProgramTree}
use Rattle.ped_tree.specs.Numbering.{statements_count}
use Rattle.ped_rules.specs.ped_loop_runs.specs.Numbers.{AreApart, FitInGap, kept_numbers}
use Rattle.ped_rules.specs.ped_laws.specs.Acts.Orders.{IsIn}
use Rattle.ped_rules.specs.ped_laws.proofs.ActLaws.Lists.{in_parts}
use Rattle.ped_splits.proofs.OneToOne.{times_in, is_number, loops_once}
use Rattle.ped_splits.proofs.Partitions.{tally, flat, loops_long}
use Rattle.ped_splits.proofs.PiBlockSizes.{found_below}
use Rattle.ped_splits.proofs.SplitUnits.{size_of_unit, numbers_long, heads_counted, same_sums}
use Rattle.ped_splits.specs.PiBlocks.{ArePiBlocks}
use Rattle.ped_splits.specs.CodeUnits.{AreBelow}
use Rattle.ped_splits.specs.Distributing.{loops_of, numbers_of, pi_block_sources, loop_sources}
use Rattle.ped_splits.specs.Units.{units, stands_in}

-- new numbers from this one on, each with the number under which its statement counts; those that come from no statement count under fresh numbers
abbrev pub split_pairs : (at fresh : ℕ) → List (Option ℕ) → List (ℕ × ℕ)
split_pairs at fresh [] = []
split_pairs at fresh (None ∷ os) = (at, fresh) ∷ split_pairs (at + 1) (fresh + 1) os
split_pairs at fresh (Some k ∷ os) = (at, k) ∷ split_pairs (at + 1) fresh os

-- how many numbers are fresh
abbrev pub new_ones : List (Option ℕ) → ℕ
new_ones [] = 0
new_ones (None ∷ os) = suc (new_ones os)
new_ones (Some k ∷ os) = new_ones os

-- a pair stands in the row, and its second number is one that statements come from, or a fresh one
pub record IsOfRow (at fresh : ℕ) (os : List (Option ℕ)) (y : ℕ × ℕ) : Type 0 where
  pub from : at ≤ y.0
  pub to : y.0 < at + length os
  pub under : IsIn (Some y.1) os ⊎ (fresh ≤ y.1)

pub of_row : (at fresh : ℕ) (os : List (Option ℕ)) (y : ℕ × ℕ) → IsIn y (split_pairs at fresh os) → IsOfRow at fresh os y
of_row at fresh [] y i = absurd i
of_row at fresh (None ∷ os) y (inl e) =
    let first = ap (λ (z : ℕ × ℕ). z.0) e in
    let second = ap (λ (z : ℕ × ℕ). z.1) e in
    record { from = omega (arith, first); to = omega (arith, first); under = inr (omega (arith, second)) }
of_row at fresh (None ∷ os) y (inr i) =
    let r = of_row (at + 1) (fresh + 1) os y i in
    let low = r.from in
    let high = r.to in
    record { from = omega (arith, low); to = omega (arith, high); under = elim r.under [ inl j ↦ inl (inr j) | inr h ↦ inr (omega (arith, h)) ] }
of_row at fresh (Some k ∷ os) y (inl e) =
    let first = ap (λ (z : ℕ × ℕ). z.0) e in
    record { from = omega (arith, first); to = omega (arith, first); under = inl (inl (ap (λ (z : ℕ × ℕ). Some z.1) e)) }
of_row at fresh (Some k ∷ os) y (inr i) =
    let r = of_row (at + 1) fresh os y i in
    let low = r.from in
    let high = r.to in
    record { from = omega (arith, low); to = omega (arith, high); under = elim r.under [ inl j ↦ inl (inr j) | inr h ↦ inr h ] }

-- where numbers stand in the row
pub pairs_append : (at fresh : ℕ) (os ps : List (Option ℕ)) → split_pairs at fresh (os ++ ps) ≡ split_pairs at fresh os ++ split_pairs (at + length os) (fresh + new_ones os) ps
pairs_append at fresh [] ps = λ i. split_pairs ((let a : at ≡ at + 0 = omega arith in a) i) ((let b : fresh ≡ fresh + 0 = omega arith in b) i) ps
pairs_append at fresh (None ∷ os) ps =
    ap (λ (xs : List (ℕ × ℕ)). (at, fresh) ∷ xs) (pairs_append (at + 1) (fresh + 1) os ps
    ∙ (λ i. split_pairs (at + 1) (fresh + 1) os ++ split_pairs ((let a : at + 1 + length os ≡ at + suc (length os) = omega arith in a) i) ((let b : fresh + 1 + new_ones os ≡ fresh + suc (new_ones os) = omega arith in b) i) ps))
pairs_append at fresh (Some k ∷ os) ps =
    ap (λ (xs : List (ℕ × ℕ)). (at, k) ∷ xs) (pairs_append (at + 1) fresh os ps
    ∙ (λ i. split_pairs (at + 1) fresh os ++ split_pairs ((let a : at + 1 + length os ≡ at + suc (length os) = omega arith in a) i) (fresh + new_ones os) ps))

-- a number that stands in a list stands there once at least
pub at_least_once : (v : ℕ) (os : List (Option ℕ)) → IsIn (Some v) os → 1 ≤ times_in v os
at_least_once v [] i = absurd i
at_least_once v (o ∷ os) (inl e) =
    let whole = sum_by-cons (λ (x : Option ℕ). tally (is_number v x)) o os in
    let here : tally (is_number v o) ≡ 1 = ap (λ (x : Option ℕ). tally (is_number v x)) (sym e) ∙ ap tally (eq-eqb v v refl) in
    omega (arith, whole, here)
at_least_once v (o ∷ os) (inr i) =
    let whole = sum_by-cons (λ (x : Option ℕ). tally (is_number v x)) o os in
    let rest = at_least_once v os i in
    omega (arith, whole, rest)

pub pairs_apart : (at fresh : ℕ) (os : List (Option ℕ)) → ((v : ℕ) → times_in v os ≤ 1) → ((v : ℕ) → IsIn (Some v) os → v < fresh) → AreApart (split_pairs at fresh os)
pairs_apart at fresh [] once low = tt
pairs_apart at fresh (None ∷ os) once low = (
  (λ y i.
      let r = of_row (at + 1) (fresh + 1) os y i in
      let from = r.from in (
        (λ e. omega (arith, from, e)),
        (λ e. elim r.under [
          | inl j ↦ (let less = low y.1 (inr j) in omega (arith, less, e))
          | inr h ↦ omega (arith, h, e)
        ]),
      )),
  pairs_apart (at + 1) (fresh + 1) os (λ v. let whole = sum_by-cons (λ (x : Option ℕ). tally (is_number v x)) None os in let all = once v in omega (arith, whole, all)) (λ v i. let less = low v (inr i) in omega (arith, less)),
)
pairs_apart at fresh (Some k ∷ os) once low = (
  (λ y i.
      let r = of_row (at + 1) fresh os y i in
      let from = r.from in (
        (λ e. omega (arith, from, e)),
        (λ e. elim r.under [
          | inl j ↦ (
              let more : 1 ≤ times_in k os = at_least_once k os (subst (λ (v : ℕ). IsIn (Some v) os) e j) in
              let whole : times_in k (Some k ∷ os) ≡ tally (k == k) + times_in k os = sum_by-cons (λ (x : Option ℕ). tally (is_number k x)) (Some k) os in
              let here : tally (k == k) ≡ 1 = ap tally (eq-eqb k k refl) in
              let all = once k in
              omega (arith, more, whole, here, all)
              )
          | inr h ↦ (let less = low k (inl refl) in omega (arith, h, e, less))
        ]),
      )),
  pairs_apart (at + 1) fresh os (λ v. let whole = sum_by-cons (λ (x : Option ℕ). tally (is_number v x)) (Some k) os in let all = once v in omega (arith, whole, all)) (λ v i. low v (inr i)),
)

one_some : (v k : ℕ) → Some v ≡ Some k → v ≡ k
one_some v k e = cc

from_range : (a n : ℕ) (p : ℕ → Bool) (v : ℕ) → IsIn v (filter p (range_with_len a n)) → (a ≤ v) × (v < a + n)
from_range a zero p v i = absurd i
from_range a (suc n) p v i = by (from_range (a + 1) n p v) (p a) i
  where
    by : (IsIn v (filter p (range_with_len (a + 1) n)) → (a + 1 ≤ v) × (v < a + 1 + n)) → (b : Bool) → IsIn v (cond b (a ∷ filter p (range_with_len (a + 1) n)) (filter p (range_with_len (a + 1) n))) → (a ≤ v) × (v < a + suc n)
    by rest true (inl e) = (omega (arith, e), omega (arith, e))
    by rest true (inr j) = let r = rest j in let low = r.0 in let high = r.1 in (omega (arith, low), omega (arith, high))
    by rest false j = let r = rest j in let low = r.0 in let high = r.1 in (omega (arith, low), omega (arith, high))

-- what stands among the sources of DO loops of blocks is the DO, or a statement of its body
module _ (s : ℕ) (body : StmtTrees) where
  of_units : (block : List ℕ) (v : ℕ) → IsIn (Some v) (map Some (flat_map (numbers_of s body) block)) → (s + 1 ≤ v) × (v < s + 1 + statements_count body)
  of_units [] v i = absurd i
  of_units (k ∷ block) v i =
      elim (in_parts (Some v) (map Some (numbers_of s body k)) (map Some (flat_map (numbers_of s body) block)) (subst (λ (os : List (Option ℕ)). IsIn (Some v) os) (map-append Some (numbers_of s body k) (flat_map (numbers_of s body) block)) i)) [
        | inl j ↦ from_range (s + 1) (statements_count body) (stands_in s body k) v (unmapped (numbers_of s body k) j)
        | inr j ↦ of_units block v j
      ]
    where
      unmapped : (ks : List ℕ) → IsIn (Some v) (map Some ks) → IsIn v ks
      unmapped [] j = absurd j
      unmapped (x ∷ ks) (inl e) = inl (one_some v x e)
      unmapped (x ∷ ks) (inr j) = inr (unmapped ks j)

  of_block : (head : Option ℕ) (block : List ℕ) (v : ℕ) → (Some v ≡ head → (s ≤ v) × (v < s + (statements_count body + 1))) → IsIn (Some v) (pi_block_sources s body head block) → (s ≤ v) × (v < s + (statements_count body + 1))
  of_block head block v at (inl e) = at e
  of_block head block v at (inr i) = let r = of_units block v i in let low = r.0 in let high = r.1 in (omega (arith, low), omega (arith, high))

  no_source : (v : ℕ) → Some v ≡ None → (s ≤ v) × (v < s + (statements_count body + 1))
  no_source v e = absurd cc

  of_blocks : (found : List (List ℕ)) (v : ℕ) → IsIn (Some v) (flat_map (pi_block_sources s body None) found) → (s ≤ v) × (v < s + (statements_count body + 1))
  of_blocks [] v i = absurd i
  of_blocks (block ∷ found) v i = elim (in_parts (Some v) (pi_block_sources s body None block) (flat_map (pi_block_sources s body None) found) i) [
    | inl j ↦ of_block None block v (no_source v) j
    | inr j ↦ of_blocks found v j
  ]

-- each source comes once
sources_once : (t : ProgramTree) (s : ℕ) (h : Head) (body : StmtTrees) (found : List (List ℕ)) → ArePiBlocks t s h body found → (v : ℕ) → times_in v (loop_sources s body found) ≤ 1
sources_once t s h body found are v = subst (λ (bs : List (List ℕ)). times_in v (loop_sources s body bs) ≤ 1) (sym are.order) (loops_once v s body are.reach)

pub all_flat : (n : ℕ) (found : List (List ℕ)) → All (AreBelow n) found → AreBelow n (flat found)
all_flat n [] h = All-nil (λ i. i < n)
all_flat n (b ∷ found) h = All-append (λ i. i < n) b (flat found) (All-head (AreBelow n) b found h) (all_flat n found (All-tail (AreBelow n) b found h))

pub sources_low : (s size : ℕ) (body : StmtTrees) (found : List (List ℕ)) (v : ℕ) → IsIn (Some v) (loop_sources s body found) → (s ≤ v) × (v < s + (statements_count body + 1))
sources_low s size body [] v i = absurd i
sources_low s size body (block ∷ found) v i = elim (in_parts (Some v) (pi_block_sources s body (Some s) block) (flat_map (pi_block_sources s body None) found) i) [
  | inl j ↦ of_block s body (Some s) block v (λ e. let same = one_some v s e in (omega (arith, same), omega (arith, same))) j
  | inr j ↦ of_blocks s body found v j
]

-- in the new program: the statements before the DO, those of the new DO loops, and those behind
abbrev pub split_numbers : ProgramTree → (s : ℕ) → StmtTrees → List (List ℕ) → List (ℕ × ℕ)
split_numbers t s body found = kept_numbers s (statements_count body + 1) (length (loop_sources s body found)) (statements_count t.body) (split_pairs s (statements_count t.body + 1) (loop_sources s body found))

pub split_fits : (t : ProgramTree) (s : ℕ) (h : Head) (body : StmtTrees) (found : List (List ℕ)) → ArePiBlocks t s h body found → s + statements_count body ≤ statements_count t.body
    → FitInGap s (statements_count body + 1) (length (loop_sources s body found)) (statements_count t.body) (split_pairs s (statements_count t.body + 1) (loop_sources s body found))
split_fits t s h body found are inside = record {
  room = omega (arith, inside);
  apart = pairs_apart s (statements_count t.body + 1) (loop_sources s body found) (sources_once t s h body found are) (λ v i. let low = (sources_low s 0 body found v i).1 in omega (arith, low, inside));
  from = λ y i. (of_row s (statements_count t.body + 1) (loop_sources s body found) y i).from;
  to = λ y i. (of_row s (statements_count t.body + 1) (loop_sources s body found) y i).to;
  under = λ y i. elim (of_row s (statements_count t.body + 1) (loop_sources s body found) y i).under [
    | inl j ↦ inl (sources_low s 0 body found y.1 j)
    | inr h ↦ inr (omega (arith, h))
  ];
}

pub loops_counted : (t : ProgramTree) (s : ℕ) (h : Head) (body : StmtTrees) (found : List (List ℕ)) → ArePiBlocks t s h body found → statements_count (loops_of found h body) ≡ length (loop_sources s body found)
loops_counted t s h body found are =
    let heads = heads_counted h body found in
    let long = loops_long s body found in
    let same = same_sums (λ i. length (numbers_of s body i)) (size_of_unit body) (length (units body)) (flat found) (all_flat (length (units body)) found (found_below t s h body found are)) (numbers_long s body) in
    omega (arith, heads, long, same)
