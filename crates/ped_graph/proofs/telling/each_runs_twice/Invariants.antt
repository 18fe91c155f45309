use Rattle.std.proofs.Common.{◌≡◌, drop}
use Rattle.std.specs.List.{list_all}
use Rattle.ped_graph.specs.Marks.{runs_twice}
use Rattle.ped_graph.proofs.telling.each_runs_twice.Given as goal

abbrev pub invariant-loop-range : goal.invariant-loop-range
invariant-loop-range l = list_all runs_twice (drop l.range-index l.ranges) ≡ list_all runs_twice l.ranges
