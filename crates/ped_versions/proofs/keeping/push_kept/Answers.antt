use Rattle.std.proofs.Common.{ℕ, ◌+◌, List, [], ◌∷◌, ◌++◌, map, sym, ap, ◌∙◌, arith}
use Rattle.std.specs.List.{range_with_len}
use Rattle.std.proofs.lemmas.List.{append_assoc}
use Rattle.std.proofs.lemmas.List.FromFn.{map-range_with_len_more}
use Rattle.ped_versions.proofs.keeping.push_kept.Goals as goal

pub loop-number-preserved : goal.loop-number-preserved
loop-number-preserved c =
    let n = c.loop-number.number in
    let pair : ℕ → ℕ × ℕ = λ j. (c.args.before + j, c.args.behind + j) in
    c.in_ok-push.ensures.ok
    ∙ ap (λ (kept : List (ℕ × ℕ)). kept ++ (c.args.before + (n + 1), c.args.behind + (n + 1)) ∷ []) c.loop-number.invariant
    ∙ append_assoc c.args.keep.now (map pair (range_with_len 1 n)) ((c.args.before + (n + 1), c.args.behind + (n + 1)) ∷ [])
    ∙ ap (λ (more : List (ℕ × ℕ)). c.args.keep.now ++ more) (sym (map-range_with_len_more pair 1 n (n + 1) (omega arith)))
