use Rattle.std.proofs.Common.{◌≡◌, ℕ, not, take, filter}
use Rattle.ped_splits.specs.PiBlocks.{are_together}
use Rattle.ped_splits.proofs.pi_blocks.behind.Given as goal

abbrev pub invariant-loop-unit : goal.invariant-loop-unit
invariant-loop-unit l = l.rest.items ≡ filter (λ (k : ℕ). not (are_together l.reach l.first k)) (take l.unit-index l.left)
