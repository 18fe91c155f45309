use Rattle.std.proofs.Common.{arith, ◌^◌, ℤ, pos, neg_ℤ, ◌<ℤ◌, FitsSigned, int_div}
use Rattle.std.specs.Int.{w128}
use Rattle.std.proofs.lemmas.Int.{quot_is}
use Rattle.ped_views.proofs.Products.{linear, quot_small}
use Rattle.ped_views.proofs.quotients.long_quotient.Goals as goal

fits : (n d : ℤ) → neg_ℤ (pos (2 ^ 127)) <ℤ n → FitsSigned w128 n → FitsSigned w128 (int_div n d)
fits n d h f = let s = quot_small n d in omega (arith, linear)

pub returns-clause-value : goal.returns-clause-value
returns-clause-value c = quot_is w128 c.args.n c.args.d c.ranges.n c.ranges.d (fits c.args.n c.args.d c.requires.dividend c.ranges.n)

pub returns-clause-small : goal.returns-clause-small
returns-clause-small c =
    let e = quot_is w128 c.args.n c.args.d c.ranges.n c.ranges.d (fits c.args.n c.args.d c.requires.dividend c.ranges.n) in
    let s = quot_small c.args.n c.args.d in
    rw e (omega (arith, linear))
