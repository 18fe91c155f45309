use Rattle.std.proofs.Common.{◌≡◌, [], take}
use Rattle.ped_refs.specs.Loops.{nest_of}
use Rattle.ped_evidence.specs.Kept.{levels_kept}
use Rattle.ped_evidence.specs.Levels.{levels_inside}
use Rattle.ped_evidence.proofs.levels.levels.Given as goal

abbrev pub invariant-loop-i : goal.invariant-loop-i
invariant-loop-i l = levels_kept l.found.items ≡ take l.i (levels_inside [] (nest_of l.nest) l.ranges)
