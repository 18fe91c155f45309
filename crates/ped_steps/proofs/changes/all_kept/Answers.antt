use Rattle.std.proofs.Common.{ℕ, ◌+◌, List, [], ◌∷◌, ◌++◌, sym, ap, ◌∙◌, arith}
use Rattle.std.proofs.lemmas.List.FromFn.{map-range_with_len_more}
use Rattle.ped_steps.proofs.changes.all_kept.Goals as goal

pub loop-n-preserved : goal.loop-n-preserved
loop-n-preserved c =
    let n = c.loop-n.n in
    c.in_ok-push.ensures.ok ∙ ap (λ (kept : List (ℕ × ℕ)). kept ++ (n + 1, n + 1) ∷ []) c.loop-n.invariant ∙ sym (map-range_with_len_more (λ (k : ℕ). (k, k)) 1 n (n + 1) (omega arith))
