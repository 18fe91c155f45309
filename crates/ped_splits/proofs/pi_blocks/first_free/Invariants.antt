use Rattle.std.proofs.Common.{◌≡◌, ◌==◌, ℕ, [], take, filter, slice_index_or}
use Rattle.ped_splits.proofs.pi_blocks.first_free.Given as goal

abbrev pub invariant-loop-unit : goal.invariant-loop-unit
invariant-loop-unit l = filter (λ (i : ℕ). slice_index_or l.leaders i 0 == 0) (take l.unit-index l.left) ≡ []
