use Rattle.std.proofs.Common.{pos, ◌≤ℤ◌}
use Rattle.ped_miv.specs.Values.{InnerForm}
use Rattle.ped_miv.proofs.Multiples.{AreAhead}
use Rattle.ped_miv.proofs.Unknowns.{inner_forms_from}
use Rattle.ped_miv.proofs.solutions.inner_divisor.Given as goal

-- the loops so far add the multiples of the divisor
abbrev pub invariant-loop-a : goal.invariant-loop-a
invariant-loop-a l = record {
  ahead : AreAhead (InnerForm l.row) (inner_forms_from l.row l.a-index) l.divisor;
  not_negative : pos 0 ≤ℤ l.divisor;
}
