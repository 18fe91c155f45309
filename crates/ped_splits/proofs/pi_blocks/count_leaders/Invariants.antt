use Rattle.std.proofs.Common.{◌≡◌, take}
use Rattle.ped_splits.specs.CodeUnits.{leaders}
use Rattle.ped_splits.proofs.pi_blocks.count_leaders.Given as goal

abbrev pub invariant-loop-other : goal.invariant-loop-other
invariant-loop-other l = l.count ≡ leaders l.reach (take l.other-index l.units) l.unit
