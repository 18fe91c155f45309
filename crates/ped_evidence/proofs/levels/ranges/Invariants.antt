use Rattle.std.proofs.Common.{◌≡◌, length, take}
use Rattle.ped_refs.specs.Loops.{nest_of}
use Rattle.ped_affine.specs.Ranges.{nest_ranges}
use Rattle.ped_affine.specs.PairViews.{heads_of}
use Rattle.ped_affine.specs.Arguments.{setting_of}
use Rattle.ped_evidence.proofs.levels.ranges.Given as goal

abbrev pub invariant-loop-i : goal.invariant-loop-i
invariant-loop-i l = record {
  so_far : l.found.items ≡ take l.i (nest_ranges (setting_of l.setting) (heads_of (nest_of l.nest)));
  as_many : length l.found.items ≡ l.i;
}
