use Rattle.std.proofs.Common.{sym, ap, ◌∙◌}
use Rattle.ped_affine.specs.IntervalArithmetic.{interval_negation}
use Rattle.ped_affine.specs.Ranges.{kept_near, of_one}
use Rattle.ped_affine.proofs.IntervalEnds.{negation_is}
use Rattle.ped_affine.proofs.intervals.negations.Goals as goal

pub returns-in-Some-clause-value : goal.returns-in-Some-clause-value
returns-in-Some-clause-value c =
    let arm = c.in-Some in
    let within = c.requires arm.a arm.is in
    c.kept.ensures.value ∙ ap kept_near (negation_is arm.a c.neg.result within.ordered c.neg.ensures)
    ∙ ap (of_one interval_negation) (sym arm.is)
