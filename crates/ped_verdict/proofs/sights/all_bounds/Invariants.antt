use Rattle.std.proofs.Common.{length, ◌-◌, ◌+◌}
use Rattle.ped_miv.specs.Bounds.{MayBound}
use Rattle.ped_verdict.proofs.Sighted.{FirstBounds}
use Rattle.ped_verdict.proofs.sights.all_bounds.Given as goal

-- the bounds of what the last loops so far add
abbrev pub invariant-loop-behind : goal.invariant-loop-behind
invariant-loop-behind l = record {
  bounds : FirstBounds (l.behind + 1) l.view l.position l.all.items;
  here : MayBound l.view l.position (length l.view.loops - l.behind) l.bounds;
}
