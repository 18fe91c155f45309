use Rattle.std.proofs.Common.{◌≡◌, List, ℕ, ap, subst, sym, ◌∙◌, rules, IsPermutation}
use Rattle.std.specs.Ordering.{nat_cmp, is_lt}
use Rattle.std.specs.Cmp.Lexicographic.{slice_cmp}
use Rattle.std.proofs.lemmas.Cmp.{nat_list_cmp_total}
use Rattle.std.proofs.lemmas.List.Filters.{dedup_is}
use Rattle.std.proofs.lemmas.List.Sorted.{ranks_by, answers_always}
use Rattle.ped_base.specs.Lists.{is_same_text}
use Rattle.ped_eval.proofs.SortedNames.{sorted_is}
use Rattle.ped_eval.proofs.sorting.sorted_once.Goals as goal

pub returns : goal.returns
returns c =
    let is = dedup_is is_same_text _ _ c.dedup.ensures.filtered in
    let up = c.in_ok-sort_by.ensures.sorted (λ x y. is_lt (slice_cmp nat_cmp x y)) (ranks_by nat_list_cmp_total (λ x. x))
    (answers_always _ (λ a r. is_lt r ≡ is_lt (slice_cmp nat_cmp a.0.now a.1.0.now)) _ (λ f a r f' k. let q : r ≡ slice_cmp nat_cmp a.0.now a.1.0.now = search rules in ap is_lt q)) in
    let moved = subst (λ (xs : List (List ℕ)). IsPermutation xs c.sort_by.new.self.items) c.in_ok-sorted.ensures.items c.sort_by.ensures.permutation in
    c.from_vec.ensures ∙ is ∙ sorted_is c.args.names.now _ moved up
