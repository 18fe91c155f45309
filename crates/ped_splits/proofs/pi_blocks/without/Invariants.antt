use Rattle.std.proofs.Common.{◌≡◌, ℕ, ◌-◌, map, slice_index_or}
use Rattle.std.specs.List.{range_with_len}
use Rattle.ped_splits.specs.CodeUnits.{leaders}
use Rattle.ped_splits.proofs.pi_blocks.without.Given as goal

abbrev pub invariant-loop-unit : goal.invariant-loop-unit
invariant-loop-unit l = l.all.items ≡ map (λ (i : ℕ). slice_index_or l.leaders i 0 - leaders l.reach l.gone i) (range_with_len 0 l.unit)
