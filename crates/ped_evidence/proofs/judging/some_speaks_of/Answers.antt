use Rattle.std.proofs.Common.{◌∙◌, sym, arith}
use Rattle.ped_evidence.proofs.JudgedLines.{none_left}
use Rattle.ped_evidence.proofs.judging.some_speaks_of.Goals as goal

pub returns : goal.returns
returns c = sym (none_left c.args.source c.args.sink c.args.vector.now c.args.evidence.now c.args.held.now c.loop-i.i (omega arith)) ∙ c.loop-i.invariant
