use Rattle.std.proofs.Common.{ℕ, ◌-◌, ◌∷◌, ◌++◌, [], slice_index_or, sym, ◌∙◌, arith}
use Rattle.std.proofs.lemmas.List.FromFn.{map-range_with_len_more}
use Rattle.ped_splits.specs.CodeUnits.{leaders}
use Rattle.ped_splits.proofs.pi_blocks.without.Goals as goal

pub loop-unit-preserved : goal.loop-unit-preserved
loop-unit-preserved c =
    c.in_ok-push.ensures.items ∙ (λ i. c.loop-unit.invariant i ++ (slice_index_or c.args.leaders.now c.loop-unit.unit 0 - c.count_leaders.ensures i) ∷ [])
    ∙ sym (map-range_with_len_more (λ (i : ℕ). slice_index_or c.args.leaders.now i 0 - leaders c.args.reach.now c.args.gone.now i) 0 c.loop-unit.unit c.loop-unit.unit (omega arith))
