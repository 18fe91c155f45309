use Rattle.ped_refs.specs.Tallies.{AreCounted}
use Rattle.ped_refs.proofs.counting.count_pairs.Given as goal

abbrev pub invariant-loop-i : goal.invariant-loop-i
invariant-loop-i l = AreCounted l.refs l.i l.groups l.total
