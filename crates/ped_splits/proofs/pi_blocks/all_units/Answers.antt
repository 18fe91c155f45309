use Rattle.std.proofs.Common.{ℕ, List, ◌∷◌, ◌++◌, [], ap, sym, ◌∙◌, arith}
use Rattle.ped_splits.proofs.PiBlockOrders.{range_more}
use Rattle.ped_splits.proofs.pi_blocks.all_units.Goals as goal

pub loop-unit-preserved : goal.loop-unit-preserved
loop-unit-preserved c = c.in_ok-push.ensures.items ∙ ap (λ (all : List ℕ). all ++ c.loop-unit.unit ∷ []) c.loop-unit.invariant ∙ sym (range_more 0 c.loop-unit.unit c.loop-unit.unit (omega arith))
