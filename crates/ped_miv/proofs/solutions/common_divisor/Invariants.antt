use Rattle.std.proofs.Common.{pos, ◌≤ℤ◌}
use Rattle.ped_miv.specs.Values.{CommonForm}
use Rattle.ped_miv.proofs.Multiples.{AreAhead}
use Rattle.ped_miv.proofs.Unknowns.{forms_from}
use Rattle.ped_miv.proofs.solutions.common_divisor.Given as goal

-- the loops so far add the multiples of the divisor
abbrev pub invariant-loop-k : goal.invariant-loop-k
invariant-loop-k l = record {
  ahead : AreAhead (CommonForm l.source l.sink l.directions) (forms_from l.source l.sink l.directions l.k) l.divisor;
  not_negative : pos 0 ≤ℤ l.divisor;
}
