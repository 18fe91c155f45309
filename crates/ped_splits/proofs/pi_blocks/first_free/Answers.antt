use Rattle.std.proofs.Common.{ℕ, ◌+◌, ◌==◌, drop, filter, slice_index_or, ap}
use Rattle.ped_splits.proofs.PiBlockOrders.{first_passes}
use Rattle.ped_splits.proofs.pi_blocks.first_free.Goals as goal

pub returns-then-leaders-unit-eq0 : goal.returns-then-leaders-unit-eq0
returns-then-leaders-unit-eq0 c =
    let k = c.loop-unit.unit-index in
    let test = λ (i : ℕ). slice_index_or c.args.leaders.now i 0 == 0 in
    (filter test (drop (k + 1) c.args.left.now), first_passes test c.args.left.now k 0 c.loop-unit-test.true c.loop-unit.invariant (ap (λ (n : ℕ). n == 0) c.if-leaders-unit-eq0.true))
