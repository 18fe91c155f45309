use Rattle.std.proofs.Common.{ℕ, sym, subst}
use Rattle.std.specs.Int.{IsGcd}
use Rattle.ped_views.proofs.divisors.gcd_of_sizes.Goals as goal

pub returns-then-b-most-clause-divisor : goal.returns-then-b-most-clause-divisor
returns-then-b-most-clause-divisor c = subst (λ (n : ℕ). IsGcd c.args.a c.args.b n) (sym c.from.ensures) c.binary_gcd.ensures
