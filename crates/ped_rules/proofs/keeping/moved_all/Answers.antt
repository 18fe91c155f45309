use Rattle.std.proofs.Common.{ℕ, ◌+◌, List, [], ◌∷◌, ◌++◌, map, sym, ap, ◌∙◌, arith}
use Rattle.std.specs.List.{range_with_len}
use Rattle.std.proofs.lemmas.List.FromFn.{map-range_with_len_more}
use Rattle.ped_rules.specs.KeepMaps.{moved}
use Rattle.ped_rules.proofs.keeping.moved_all.Goals as goal

pub loop-n-preserved : goal.loop-n-preserved
loop-n-preserved c =
    let n = c.loop-n.n in
    let pair : ℕ → ℕ × ℕ = λ k. (k, moved c.args.end c.args.further k) in
    c.in_ok-push.ensures.ok
    ∙ ap (λ (kept : List (ℕ × ℕ)). kept ++ (n + 1, c.moved-behind.result) ∷ []) c.loop-n.invariant
    ∙ ap (λ (m : ℕ). map pair (range_with_len 1 n) ++ (n + 1, m) ∷ []) c.moved-behind.ensures
    ∙ sym (map-range_with_len_more pair 1 n (n + 1) (omega arith))
