use Rattle.std.proofs.Common.{◌≡◌, neg_ℤ, ◌++◌, map, take, drop, All}
use Rattle.ped_views.specs.Limits.{IsSmallCoefficient}
use Rattle.ped_affine.proofs.coefficients.negate_all.Given as goal

abbrev pub invariant-loop-a : goal.invariant-loop-a
invariant-loop-a l = record {
  negated : l.coefficients ≡ map neg_ℤ (take l.a-index l.fn.coefficients) ++ drop l.a-index l.fn.coefficients;
  small : All IsSmallCoefficient (drop l.a-index l.coefficients);
}
