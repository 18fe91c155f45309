use Rattle.std.proofs.Common.{◌∙◌}
use Rattle.ped_evidence.proofs.JudgedLines.{some_is_disproved}
use Rattle.ped_evidence.proofs.judging.is_disproved.Goals as goal

pub returns : goal.returns
returns c = λ t e held source sink. c.some_speaks_of.ensures ∙ some_is_disproved t e c.args.vector.now c.args.evidence.now _ _ _ source sink held
