use Rattle.std.proofs.Common.{◌≡◌, ◌++◌, take, drop}
use Rattle.ped_refs.specs.Loops.{nest_of}
use Rattle.ped_affine.specs.Ranges.{ranges_inside, nest_ranges}
use Rattle.ped_affine.specs.PairViews.{heads_of}
use Rattle.ped_affine.specs.Arguments.{setting_of}
use Rattle.ped_affine.specs.Surroundings.{with_ranges}
use Rattle.ped_affine.proofs.ranges.find_ranges.Given as goal

abbrev pub invariant-loop-i : goal.invariant-loop-i
invariant-loop-i l =
    take l.i l.ranges ++ ranges_inside (setting_of l.setting) (with_ranges (heads_of (nest_of (take l.i l.nest))) (take l.i l.ranges)) (heads_of (nest_of (drop l.i l.nest)))
    ≡ nest_ranges (setting_of l.setting) (heads_of (nest_of l.nest))
