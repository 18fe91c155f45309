use Rattle.std.proofs.Common.{◌≡◌, ◌-◌, ◌≤◌, ◌++◌, length, take}
use Rattle.std.specs.Option.{option_map}
use Rattle.ped_io.proofs.writing.put_all.Given as goal

abbrev pub invariant-loop-sent : goal.invariant-loop-sent
invariant-loop-sent g l = record {
  within : l.sent ≤ length l.bytes;
  took : g.K.Sink.taken l.sink
      ≡ option_map (λ before. before ++ take l.sent l.bytes) (g.K.Sink.taken l.initial.sink);
  sent_so : g.K.Sink.sent l.sink ≡ g.K.Sink.sent l.initial.sink ++ take l.sent l.bytes;
  counts : g.K.Sink.faults l.initial.sink ≤ g.K.Sink.faults l.sink;
}

abbrev pub decreases-loop-sent : goal.decreases-loop-sent
decreases-loop-sent g l = length l.bytes - l.sent
