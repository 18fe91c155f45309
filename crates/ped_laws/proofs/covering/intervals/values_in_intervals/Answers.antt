use Rattle.ped_laws.proofs.CoveringLaws.ValueIntervals.{value_lies, limits_lie}
use Rattle.ped_laws.proofs.covering.intervals.values_in_intervals.Goals as goal

pub returns-clause-value : goal.returns-clause-value
returns-clause-value c = λ s around g u e n r w. value_lies s around g u w e n r

pub returns-clause-limits : goal.returns-clause-limits
returns-clause-limits c = limits_lie
