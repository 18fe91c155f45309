use Rattle.std.proofs.Common.{◌≡◌, ◌++◌, replicate, pos}
use Rattle.ped_affine.proofs.coefficients.add_zeros.Given as goal

abbrev pub invariant-loop : goal.invariant-loop
invariant-loop l = l.coefficients.items ≡ l.fn.coefficients.items ++ replicate l.counter (pos 0)
