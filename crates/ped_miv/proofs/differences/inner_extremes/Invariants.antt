use Rattle.std.proofs.Common.{◌*◌, ◌^◌}
use Rattle.ped_views.specs.Intervals.{IsWithin}
use Rattle.ped_miv.specs.Values.{InnerValue}
use Rattle.ped_miv.proofs.Ahead.{Ahead}
use Rattle.ped_miv.proofs.Steps.{inner_from}
use Rattle.ped_miv.proofs.differences.inner_extremes.Given as goal

-- the sum has the extremes of the loops so far
abbrev pub invariant-loop-k : goal.invariant-loop-k
invariant-loop-k l = record {
  ahead : Ahead (InnerValue l.loops l.row) (inner_from l.loops l.row l.k) l.sum;
  small : IsWithin (l.k * 2 ^ 94) l.sum;
}
