use Rattle.std.proofs.Common.{◌≡◌, drop}
use Rattle.std.specs.Map.{lookup}
use Rattle.ped_base.specs.Lists.{is_same_text}
use Rattle.ped_refs.specs.Loops.{nest_of}
use Rattle.ped_affine.specs.PairViews.{heads_of}
use Rattle.ped_affine.specs.Surroundings.{with_ranges}
use Rattle.ped_affine.proofs.bounds.index_values.Given as goal

abbrev pub invariant-loop-i : goal.invariant-loop-i
invariant-loop-i l =
    lookup (is_same_text l.name) (with_ranges (heads_of (nest_of (drop l.i l.around.loops.now))) (drop l.i l.around.ranges.now))
    ≡ lookup (is_same_text l.name) (with_ranges (heads_of (nest_of l.around.loops.now)) l.around.ranges.now)
