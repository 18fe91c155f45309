use Rattle.std.proofs.Common.{of_z, rules, ap, ◌∙◌, FitsSigned}
use Rattle.std.specs.Int.{w128}
use Rattle.std.proofs.lemmas.Int.{to_z-of_z}
use Rattle.ped_views.proofs.Products.{rem_by_divides}
use Rattle.ped_views.proofs.quotients.exact_quotient.Goals as goal

pub returns-else-remainder-eq0-clause-divides : goal.returns-else-remainder-eq0-clause-divides
returns-else-remainder-eq0-clause-divides c h =
    let fn : FitsSigned w128 c.args.n = c.ranges.n in
    let fd : FitsSigned w128 c.args.d = c.ranges.d in
    let fr : FitsSigned w128 c.remainder.result = search rules in
    let e = simp to_z-of_z at c.remainder.ensures in
    c.if-remainder-eq0.false (ap (of_z w128) (e ∙ rem_by_divides c.args.n c.args.d c.requires.divisor h))
