use Rattle.std.proofs.Common.{ℕ, arith, sym, subst}
use Rattle.std.proofs.lemmas.Nat.Gcd.{IsGcd-from_zero}
use Rattle.std.specs.Int.{IsGcd}
use Rattle.ped_views.proofs.Twos.{gcd_by_step, gcd_with_one}
use Rattle.ped_views.proofs.divisors.gcd_with_odd.Goals as goal

pub loop-y-preserved : goal.loop-y-preserved
loop-y-preserved c = record {
  odd = omega arith;
  same = λ g h. c.loop-y.invariant.same g (gcd_by_step c.loop-y.x c.loop-y.y c.odd_part-z.result g c.loop-y.invariant.odd c.odd_part-z.ensures.twos (rw c.min-x.ensures at (rw c.abs_diff-y.ensures at h)));
}

pub returns-then-x-eq1 : goal.returns-then-x-eq1
returns-then-x-eq1 c = c.loop-y.invariant.same 1 (subst (λ (n : ℕ). IsGcd n c.loop-y.y 1) (sym c.if-x-eq1.true) (gcd_with_one c.loop-y.y))

pub returns : goal.returns
returns c = c.loop-y.invariant.same c.loop-y.x (IsGcd-from_zero c.loop-y.x c.loop-y.y (omega arith))
