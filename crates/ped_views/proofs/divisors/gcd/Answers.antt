use Rattle.std.proofs.Common.{arith}
use Rattle.std.proofs.lemmas.Int.{ints}
use Rattle.ped_views.proofs.Dividing.{greatest_is}
use Rattle.ped_views.proofs.divisors.gcd.Goals as goal

pub returns : goal.returns
returns c =
    let small = c.gcd_of_sizes.ensures.small (omega (arith, ints)) (omega (arith, ints)) in
    greatest_is c.args.a c.args.b _ _ _ _ (omega (arith, ints)) (omega (arith, ints)) (omega (arith, ints)) c.gcd_of_sizes.ensures.divisor
