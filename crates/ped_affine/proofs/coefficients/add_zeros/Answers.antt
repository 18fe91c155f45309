use Rattle.std.proofs.Common.{List, ◌++◌, [], ◌∷◌, ap, ◌∙◌, append_assoc, replicate, ℤ, pos}
use Rattle.std.proofs.lemmas.List.{replicate-append-replicate}
use Rattle.ped_affine.proofs.coefficients.add_zeros.Goals as goal

pub loop-preserved : goal.loop-preserved
loop-preserved c =
    let old : List ℤ = c.args.coefficients.now.items in
    c.in_ok-push.ensures.items ∙ ap (λ (xs : List ℤ). xs ++ pos 0 ∷ []) c.loop.invariant ∙ append_assoc old (replicate c.loop.counter (pos 0)) (pos 0 ∷ [])
    ∙ ap (λ (xs : List ℤ). old ++ xs) (replicate-append-replicate c.loop.counter 1 (pos 0))
