use Rattle.std.proofs.Common.{◌+◌, ◌==◌, ℕ, List, [], ◌∷◌, ◌++◌, map, filter, not, Bool, sym, ap, ◌∙◌, arith, if◌then◌else◌}
use Rattle.std.specs.List.{range_with_len}
use Rattle.std.proofs.lemmas.List.FromFn.{filter_of_map_range_with_len_more}
use Rattle.ped_rules.specs.KeepMaps.{closed_up}
use Rattle.ped_splits.proofs.KeptWithout.{unless_kept}
use Rattle.ped_splits.proofs.joining.kept_up_to.Goals as goal

pub loop-n-preserved : goal.loop-n-preserved
loop-n-preserved c =
    let n = c.loop-n.n in
    let m = c.args.number in
    let keeps : ℕ × ℕ → Bool = λ p. not (p.0 == m) in
    let pair : ℕ → ℕ × ℕ = λ k. (k, closed_up m k) in
    let before : List (ℕ × ℕ) = filter keeps (map pair (range_with_len 1 n)) in
    c.in_ok-add_unless.ensures
    ∙ ap (λ (kept : List (ℕ × ℕ)). kept ++ (if (n + 1) == m then [] else pair (n + 1) ∷ [])) c.loop-n.invariant
    ∙ ap (λ (kept : List (ℕ × ℕ)). before ++ kept) (unless_kept ((n + 1) == m) (pair (n + 1)))
    ∙ sym (filter_of_map_range_with_len_more keeps pair 1 n (n + 1) (omega arith))
