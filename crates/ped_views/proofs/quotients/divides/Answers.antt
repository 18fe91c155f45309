use Rattle.std.proofs.Common.{◌≡◌, arith, rules, pos, ◌∙◌, sym, FitsSigned}
use Rattle.std.specs.Int.{w128}
use Rattle.std.proofs.lemmas.Int.{ints, to_z-of_z}
use Rattle.ped_views.proofs.Equal.{zero_decided}
use Rattle.ped_views.proofs.Products.{rem_by_divides, divides_by_rem}
use Rattle.ped_views.proofs.Dividing.{divides_by_zero, divides_zero}
use Rattle.ped_views.proofs.quotients.divides.Goals as goal

pub returns-then-d-eq0 : goal.returns-then-d-eq0
returns-then-d-eq0 c =
    let d : c.args.d ≡ pos 0 = omega (arith, ints) in
    let t = zero_decided c.args.n c.ranges.n in
    (λ h. divides_zero c.args.d c.args.n (t.0 h), λ h. t.1 (divides_by_zero c.args.d c.args.n d h))

pub returns-else-d-eq0 : goal.returns-else-d-eq0
returns-else-d-eq0 c =
    let fn : FitsSigned w128 c.args.n = c.ranges.n in
    let fd : FitsSigned w128 c.args.d = c.ranges.d in
    let fr : FitsSigned w128 c.remainder.result = search rules in
    let e = simp to_z-of_z at c.remainder.ensures in
    let d : ¬ (c.args.d ≡ pos 0) = omega (arith, ints) in
    let t = zero_decided c.remainder.result fr in
    (λ h. (_, divides_by_rem c.args.n c.args.d (sym e ∙ t.0 h)), λ h. t.1 (e ∙ rem_by_divides c.args.n c.args.d d h))
