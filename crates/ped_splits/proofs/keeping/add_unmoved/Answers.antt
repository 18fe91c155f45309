use Rattle.std.proofs.Common.{ℕ, List, Option, Some, [], ◌∷◌, ◌++◌, ◌+◌, sym, ap, ◌∙◌, refl}
use Rattle.std.proofs.lemmas.List.{append_assoc}
use Rattle.std.proofs.lemmas.List.FromFn.{map-range_with_len_more}
use Rattle.ped_splits.specs.Distributing.{unmoved}
use Rattle.ped_splits.proofs.keeping.add_unmoved.Goals as goal

pub loop-place-preserved : goal.loop-place-preserved
loop-place-preserved c =
    let at = c.args.first + c.loop-place.place in
    c.in_ok-push.ensures.items ∙ ap (λ (xs : List (Option ℕ)). xs ++ Some at ∷ []) c.loop-place.invariant ∙ append_assoc c.args.sources.now.items (unmoved c.args.first c.loop-place.place) (Some at ∷ [])
    ∙ ap (λ (xs : List (Option ℕ)). c.args.sources.now.items ++ xs) (sym (map-range_with_len_more Some c.args.first c.loop-place.place at refl))
