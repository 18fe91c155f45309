use Rattle.std.proofs.Common.{◌++◌}
use Rattle.ped_certificates.proofs.Walking.{IsSumBehind}
use Rattle.ped_certificates.proofs.sums.sum_of.Given as goal

-- the sum of the parts behind a place, whose numbers grow with their number
abbrev pub invariant-loop-left : goal.invariant-loop-left
invariant-loop-left l = IsSumBehind l.system.unknowns (l.system.rows ++ l.added) l.parts l.left l.coefficients.items l.constant l.equation

abbrev pub decreases-loop-left : goal.decreases-loop-left
decreases-loop-left l = l.left
