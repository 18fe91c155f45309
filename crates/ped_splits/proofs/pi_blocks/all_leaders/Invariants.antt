use Rattle.std.proofs.Common.{◌≡◌, map}
use Rattle.std.specs.List.{range_with_len}
use Rattle.ped_splits.specs.CodeUnits.{leaders}
use Rattle.ped_splits.proofs.pi_blocks.all_leaders.Given as goal

abbrev pub invariant-loop-unit : goal.invariant-loop-unit
invariant-loop-unit l = l.all.items ≡ map (leaders l.reach l.left) (range_with_len 0 l.unit)
