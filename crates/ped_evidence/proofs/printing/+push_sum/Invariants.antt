use Rattle.std.proofs.Common.{length}
use Rattle.ped_evidence.proofs.printing.+push_sum.Given as goal

-- how many coefficients are left
abbrev pub decreases-push_sum : goal.decreases-push_sum
decreases-push_sum l = length l.coefficients.now
