use Rattle.std.proofs.Common.{◌+◌, ℕ, List, [], ◌∷◌, ◌++◌, map, filter, not, cond, Bool, append-nil, sym, ap, ◌∙◌, arith}
use Rattle.std.specs.List.{range_with_len}
use Rattle.std.proofs.lemmas.List.FromFn.{filter_of_map_range_with_len_more}
use Rattle.ped_rules.specs.KeepMaps.{is_between}
use Rattle.ped_rules.proofs.keeping.kept_but.Goals as goal
use Rattle.ped_rules.proofs.keeping.kept_but.Goals.{then-not-is_between+in_ok-push, else-not-is_between}

pub loop-n-preserved : goal.loop-n-preserved
loop-n-preserved c =
    let n = c.loop-n.n in
    let keeps : ℕ × ℕ → Bool = λ p. not (is_between c.args.first c.args.last p.0) in
    let pair : ℕ → ℕ × ℕ = λ k. (k, k) in
    let before : List (ℕ × ℕ) = filter keeps (map pair (range_with_len 1 n)) in
    let more = filter_of_map_range_with_len_more keeps pair 1 n (n + 1) (omega arith) in
    elim c.if-not-is_between.branch [
      | then-not-is_between+in_ok-push w ↦ w.keep-is
          ∙ w.in_ok-push.ensures.ok
          ∙ ap (λ (kept : List (ℕ × ℕ)). kept ++ (n + 1, n + 1) ∷ []) c.loop-n.invariant
          ∙ ap (λ (b : Bool). before ++ cond b ((n + 1, n + 1) ∷ []) []) (sym (ap not (sym c.is_between.ensures ∙ w.if-not-is_between.true)))
          ∙ sym more
      | else-not-is_between w ↦ w.keep-is
          ∙ c.loop-n.invariant
          ∙ sym (append-nil before)
          ∙ ap (λ (b : Bool). before ++ cond b ((n + 1, n + 1) ∷ []) []) (sym (ap not (sym c.is_between.ensures ∙ w.if-not-is_between.false)))
          ∙ sym more
    ]
