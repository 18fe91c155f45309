use Rattle.std.proofs.Common.{◌<◌, ℤ, unsigned_abs, sym, subst}
use Rattle.std.specs.Int.{w128}
use Rattle.std.proofs.lemmas.Int.{rem_is, rem_below}
use Rattle.ped_views.proofs.Products.{abs_some}
use Rattle.ped_rules.proofs.spans.remainder.Goals as goal

pub returns-clause-value : goal.returns-clause-value
returns-clause-value c = rem_is w128 c.args.n c.args.d c.ranges.n c.ranges.d

pub returns-clause-small : goal.returns-clause-small
returns-clause-small c =
    subst (λ (z : ℤ). unsigned_abs z < unsigned_abs c.args.d) (sym (rem_is w128 c.args.n c.args.d c.ranges.n c.ranges.d)) (rem_below c.args.n c.args.d (abs_some c.args.d c.requires.divisor))
