use Rattle.std.proofs.Common.{◌≡◌, ◌++◌, map, drop}
use Rattle.ped_refs.specs.Grouping.{pair_of}
use Rattle.ped_refs.proofs.pairing.add_pairs.Given as goal

abbrev pub invariant-loop-sink : goal.invariant-loop-sink
invariant-loop-sink l = l.listed.items ++ map (pair_of l.source) (drop l.sink-index l.sinks) ≡ l.fn.listed.items ++ map (pair_of l.source) l.sinks
