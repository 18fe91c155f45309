use Rattle.std.proofs.Common.{sym, ap, ◌∙◌}
use Rattle.ped_affine.specs.IntervalArithmetic.{interval_sum}
use Rattle.ped_affine.specs.Ranges.{kept_near, of_two}
use Rattle.ped_affine.proofs.IntervalEnds.{sum_is}
use Rattle.ped_affine.proofs.intervals.sums.Goals as goal

pub returns-in-Some-Some-clause-value : goal.returns-in-Some-Some-clause-value
returns-in-Some-Some-clause-value c =
    let arm = c.in-Some-Some in
    let first = c.requires.first arm.a arm.is-0 in
    let second = c.requires.second arm.b arm.is-1 in
    c.kept.ensures.value ∙ ap kept_near (sum_is arm.a arm.b c.add.result first.ordered second.ordered c.add.ensures)
    ∙ (λ i. of_two interval_sum (sym arm.is-0 i) (sym arm.is-1 i))
