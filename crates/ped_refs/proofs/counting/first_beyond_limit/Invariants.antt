use Rattle.std.proofs.Common.{◌≤◌}
use Rattle.ped_refs.specs.PairLimit.{most_pairs}
use Rattle.ped_refs.specs.Tallies.{AreCounted}
use Rattle.ped_refs.proofs.counting.first_beyond_limit.Given as goal

abbrev pub invariant-loop-i : goal.invariant-loop-i
invariant-loop-i l = record {
  counted : AreCounted l.refs l.i l.groups l.total;
  few : l.total ≤ most_pairs;
}
