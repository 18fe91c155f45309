-- The sizes of dimensions, one by one.
use Rattle.std.proofs.Common.{◌≡◌, ℕ, ℤ, pos, ◌+◌, ◌*◌, ◌<◌, ◌≤◌, List, [], ◌∷◌, ◌++◌, length, take, drop, get_or, refl, arith, ap, sym, ◌∙◌}
use Rattle.std.specs.Prelude.{◌||◌, nat_lt}
use Rattle.std.proofs.lemmas.List.Sums.{sum_by-append}
use Rattle.std.proofs.lemmas.Grind.{common_steps}
use Rattle.ped_base.specs.Dimensions.{dimensions, IsBounds}
use Rattle.ped_base.specs.declared.bounds.Bounds.TheInside.{Inside}
use Rattle.ped_symbols.specs.StorageLimits.{most_elements, size, sizes_product, elements, elements_of, has_large}
use Rattle.ped_symbols.specs.Arrays.{Arrays}
use Rattle.ped_symbols.specs.Passes.{capped, Counts}
use Rattle.ped_symbols.specs.declared.storage.Elements.{Elements}
use Rattle.ped_symbols.proofs.Capped.{capped_plus}
use Rattle.ped_symbols.proofs.Repeats.{or_assoc}

next_item : (xs : List ℤ) (n i : ℕ) (d : ℤ) → i < n → n ≤ length xs → drop i (take n xs) ≡ get_or xs i d ∷ drop (i + 1) (take n xs)
next_item xs n i d h k = grind (arith, common_steps)

-- the first of the dimensions that are left
pub next_size : (b : Inside) (i : ℕ) → IsBounds b → i < b.rank →
    sizes_product (drop i (dimensions b).lower) (drop i (dimensions b).upper)
    ≡ size (get_or b.lower i (pos 0)) (get_or b.upper i (pos 0)) * sizes_product (drop (i + 1) (dimensions b).lower) (drop (i + 1) (dimensions b).upper)
next_size b i h k =
    let lower = next_item b.lower b.rank i (pos 0) k (omega (arith, h.few, h.lower_long)) in
    let upper = next_item b.upper b.rank i (pos 0) k (omega (arith, h.few, h.upper_long)) in
    λ j. sizes_product (lower j) (upper j)

has_large_append : (a b : Arrays) → has_large (a ++ b) ≡ (has_large a || has_large b)
has_large_append [] b = refl
has_large_append (x ∷ a) b = ap (λ r. nat_lt most_elements (elements x.1) || r) (has_large_append a b) ∙ sym (or_assoc (nat_lt most_elements (elements x.1)) (has_large a) (has_large b))

-- more arrays are counted
pub counts_more : (c d : Elements) (before more : Arrays) → Counts c before → d.together ≡ capped (c.together + elements_of more) → d.has_large ≡ (c.has_large || has_large more) → Counts d (before ++ more)
counts_more c d before more h t l = record {
  together = t ∙ ap (λ n. capped (n + elements_of more)) h.together ∙ capped_plus (elements_of before) (elements_of more) ∙ ap capped (sym (sum_by-append (λ a. elements a.1) before more));
  large = l ∙ ap (λ r. r || has_large more) h.large ∙ sym (has_large_append before more);
}
