use Rattle.std.proofs.Common.{arith, ◌^◌, ◌<◌, ℤ, FitsSigned, int_div, unsigned_abs}
use Rattle.std.specs.Int.{w64}
use Rattle.std.proofs.lemmas.Int.{quot_is}
use Rattle.ped_views.proofs.Products.{linear, quot_small}
use Rattle.ped_views.proofs.quotients.short_quotient.Goals as goal

fits : (n d : ℤ) → unsigned_abs n < 2 ^ 63 → FitsSigned w64 (int_div n d)
fits n d h = let s = quot_small n d in omega (arith, linear)

pub returns-clause-value : goal.returns-clause-value
returns-clause-value c = quot_is w64 c.args.n c.args.d c.ranges.n c.ranges.d (fits c.args.n c.args.d c.requires.dividend)

pub returns-clause-small : goal.returns-clause-small
returns-clause-small c =
    let e = quot_is w64 c.args.n c.args.d c.ranges.n c.ranges.d (fits c.args.n c.args.d c.requires.dividend) in
    let s = quot_small c.args.n c.args.d in
    rw e (omega (arith, linear))
