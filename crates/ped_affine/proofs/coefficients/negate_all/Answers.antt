use Rattle.std.proofs.Common.{◌≡◌, ◌≤◌, ◌^◌, get_or, neg_ℤ, ℤ, pos, ◌-ℤ◌, unsigned_abs, to_z, of_z, w64, arith}
use Rattle.std.proofs.lemmas.Int.{ints}
use Rattle.ped_views.specs.Limits.{IsSmallCoefficient}
use Rattle.ped_affine.proofs.CoefficientSteps.{rest_step, rest_first, negated_step}
use Rattle.ped_affine.proofs.coefficients.negate_all.Goals as goal

-- the code's negation
negated : (a : ℤ) → unsigned_abs a ≤ 2 ^ 31 → to_z w64 (of_z w64 (pos 0 -ℤ to_z w64 (of_z w64 a))) ≡ neg_ℤ a
negated a p = omega (arith, ints)

pub loop-a-preserved : goal.loop-a-preserved
loop-a-preserved c =
    let p = rest_first IsSmallCoefficient c.loop-a.coefficients c.loop-a.a-index (omega arith) c.loop-a.invariant.small in
    record {
      negated = negated_step c.args.coefficients.now c.loop-a.coefficients c.loop-a.a-index _ (omega arith) (omega arith) (negated (get_or c.loop-a.coefficients c.loop-a.a-index (pos 0)) p) c.loop-a.invariant.negated;
      small = rest_step IsSmallCoefficient c.loop-a.coefficients c.loop-a.a-index _ (omega arith) c.loop-a.invariant.small;
    }
