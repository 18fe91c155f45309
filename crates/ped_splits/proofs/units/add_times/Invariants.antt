use Rattle.std.proofs.Common.{◌≡◌, ◌++◌, replicate}
use Rattle.ped_splits.proofs.units.add_times.Given as goal

abbrev pub invariant-loop-time : goal.invariant-loop-time
invariant-loop-time l = l.numbers.items ≡ l.initial.numbers.items ++ replicate l._time l.number
