use Rattle.std.proofs.Common.{◌≡◌, drop}
use Rattle.ped_evidence.specs.Judged.{some_speaks_of}
use Rattle.ped_evidence.proofs.judging.some_speaks_of.Given as goal

abbrev pub invariant-loop-i : goal.invariant-loop-i
invariant-loop-i l = some_speaks_of l.source l.sink l.vector (drop l.i l.evidence) (drop l.i l.held) ≡ some_speaks_of l.source l.sink l.vector l.evidence l.held
