use Rattle.std.proofs.Common.{arith}
use Rattle.std.proofs.lemmas.Nat.Gcd.{IsGcd-from_zero, IsGcd-from_mod}
use Rattle.ped_views.proofs.divisors.euclidean_gcd.Goals as goal

pub loop-y-preserved : goal.loop-y-preserved
loop-y-preserved c = record {
  same = λ g h. c.loop-y.invariant.same g (IsGcd-from_mod _ _ g h);
  small = λ p q. let s = c.loop-y.invariant.small p q in (omega arith, omega arith);
}

pub returns-clause-divisor : goal.returns-clause-divisor
returns-clause-divisor c = c.loop-y.invariant.same _ (IsGcd-from_zero _ _ (omega arith))
