use Rattle.std.proofs.Common.{◌≡◌, ◌+◌, ◌∷◌, ◌++◌, [], List, ℕ, ap, sym, ◌∙◌, arith, append_assoc, map, codes}
use Rattle.std.specs.Fmt.{decimal}
use Rattle.std.specs.List.{range_with_len}
use Rattle.std.proofs.lemmas.List.FromFn.{map-range_with_len_more}
use Rattle.ped_evidence.proofs.printing.add_quotients.Goals as goal

pub loop-before-preserved : goal.loop-before-preserved
loop-before-preserved c =
    let name : ℕ → List ℕ = λ k. codes "#" ++ decimal k in
    let n = c.loop-before.before in
    let old = c.args.names.now in
    let so_far = map name (range_with_len 1 n) in
    let last : 1 + n ≡ n + 1 = omega arith in
    c.in_ok-push.ensures.ok
    ∙ ap (λ (xs : List (List ℕ)). xs ++ c.in_ok-quotient.field-0 ∷ []) c.loop-before.invariant
    ∙ append_assoc old so_far (c.in_ok-quotient.field-0 ∷ [])
    ∙ ap (λ (x : List ℕ). old ++ (so_far ++ x ∷ [])) c.in_ok-quotient.ensures
    ∙ ap (λ (xs : List (List ℕ)). old ++ xs) (sym (map-range_with_len_more name 1 n (n + 1) last))
