use Rattle.std.proofs.Common.{◌≡◌, ◌++◌, replicate}
use Rattle.ped_reduce.proofs.origins.add_times.Given as goal

abbrev pub invariant-loop-time : goal.invariant-loop-time
invariant-loop-time l = l.all.items ≡ l.initial.all.items ++ replicate l._time l.number
