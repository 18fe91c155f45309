use Rattle.std.proofs.Common.{◌∷◌, ◌++◌, [], sym, ◌∙◌, arith}
use Rattle.std.proofs.lemmas.List.FromFn.{map-range_with_len_more}
use Rattle.ped_splits.specs.CodeUnits.{leaders}
use Rattle.ped_splits.proofs.pi_blocks.all_leaders.Goals as goal

pub loop-unit-preserved : goal.loop-unit-preserved
loop-unit-preserved c =
    c.in_ok-push.ensures.items ∙ (λ i. c.loop-unit.invariant i ++ c.count_leaders.ensures i ∷ [])
    ∙ sym (map-range_with_len_more (leaders c.args.reach.now c.args.left.now) 0 c.loop-unit.unit c.loop-unit.unit (omega arith))
