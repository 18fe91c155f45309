-- The first statement at which there are too many pairs.
use Rattle.std.proofs.Common.{◌≡◌, ℕ, suc, ◌+◌, ◌<◌, ◌≤◌, List, ◌++◌, take, drop, length, get_or, add-one, ap, sym, ◌∙◌, subst, arith}
use Rattle.std.specs.Prelude.{nat_le}
use Rattle.std.proofs.lemmas.List.{append-nil, take-append-drop}
use Rattle.std.proofs.lemmas.List.Elements.{filter-append}
use Rattle.ped_refs.specs.References.{Reference, is_pair, pair_count}
use Rattle.ped_refs.specs.PairLimit.{most_pairs, references_until, IsFirstBeyond}
use Rattle.ped_refs.proofs.RelatedPairs.{related-append-le, related-filter-le}
use Rattle.ped_refs.proofs.GroupPairs.{pair_count_is}
use Rattle.ped_refs.proofs.TextOrder.{Between, front_kept, rest_left_out}

-- a front of references has no more pairs than all
front-le : (refs more : List Reference) → pair_count refs ≤ pair_count (refs ++ more)
front-le refs more = omega (arith, pair_count_is refs, pair_count_is (refs ++ more), related-append-le is_pair refs more)

-- the references up to a statement have no more pairs than all
until-le : (number : ℕ) (refs : List Reference) → pair_count (references_until number refs) ≤ pair_count refs
until-le number refs = omega (arith, pair_count_is (references_until number refs), pair_count_is refs, related-filter-le is_pair (λ r. nat_le r.statement number) refs)

parted : (number : ℕ) (refs : List Reference) (i : ℕ) → references_until number refs ≡ references_until number (take i refs) ++ references_until number (drop i refs)
parted number refs i = ap (references_until number) (sym (take-append-drop i refs)) ∙ filter-append (λ r. nat_le r.statement number) (take i refs) (drop i refs)

-- where a reference in text order makes the pairs too many, its statement is the first
pub beyond_is : (low high : ℕ) (refs : List Reference) (i : ℕ) (d : Reference) → Between low high refs → i < length refs
    → most_pairs < pair_count (take (i + 1) refs) → pair_count (take i refs) ≤ most_pairs → IsFirstBeyond refs (get_or refs i d).statement
beyond_is low high refs i d order within more few = record {
  beyond =
      let s : ℕ = (get_or refs i d).statement in
      let e : references_until s refs ≡ take (suc i) refs ++ references_until s (drop (suc i) refs) = parted s refs (suc i) ∙ ap (λ (x : List Reference). x ++ references_until s (drop (suc i) refs)) (front_kept low high refs i d order within) in
      let all : most_pairs < pair_count (take (suc i) refs) = subst (λ (n : ℕ). most_pairs < pair_count (take n refs)) (add-one i) more in
      omega (arith, all, front-le (take (suc i) refs) (references_until s (drop (suc i) refs)), ap pair_count e);
  within_before = λ k less.
      let e : references_until k refs ≡ references_until k (take i refs) = parted k refs i ∙ ap (λ (x : List Reference). references_until k (take i refs) ++ x) (rest_left_out low high refs i d k order within less) ∙ append-nil (references_until k (take i refs)) in
      omega (arith, few, until-le k (take i refs), ap pair_count e);
}
