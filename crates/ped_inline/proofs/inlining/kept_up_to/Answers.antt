use Rattle.std.proofs.Common.{ℕ, ◌+◌, List, [], ◌∷◌, ◌++◌, sym, ap, ◌∙◌, arith}
use Rattle.std.proofs.lemmas.List.FromFn.{map-range_with_len_more}
use Rattle.ped_rules.specs.KeepMaps.{opened_at}
use Rattle.ped_inline.proofs.inlining.kept_up_to.Goals as goal

pub loop-n-preserved : goal.loop-n-preserved
loop-n-preserved c =
    let n = c.loop-n.n in
    let pair : ℕ → ℕ × ℕ = λ k. (opened_at c.args.number k, k) in
    c.in_ok-push.ensures.ok
    ∙ ap (λ (m : ℕ). c.loop-n.keep ++ (m, n + 1) ∷ []) c.opened_at.ensures
    ∙ ap (λ (kept : List (ℕ × ℕ)). kept ++ pair (n + 1) ∷ []) c.loop-n.invariant ∙ sym (map-range_with_len_more pair 1 n (n + 1) (omega arith))
