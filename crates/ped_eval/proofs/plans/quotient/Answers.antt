use Rattle.std.specs.Int.{w128}
use Rattle.std.proofs.lemmas.Int.{quot_is}
use Rattle.ped_eval.proofs.Quotients.{quotient_fits, quotient_below}
use Rattle.ped_eval.proofs.plans.quotient.Goals as goal

pub returns-clause-value : goal.returns-clause-value
returns-clause-value c = quot_is w128 c.args.n c.args.d c.ranges.n c.ranges.d (quotient_fits c.args.n c.args.d c.requires.dividend)

pub returns-clause-small : goal.returns-clause-small
returns-clause-small c = rw (quot_is w128 c.args.n c.args.d c.ranges.n c.ranges.d (quotient_fits c.args.n c.args.d c.requires.dividend)) (quotient_below c.args.n c.args.d c.requires.dividend)
