use Rattle.std.proofs.Common.{arith, rules, FitsSigned, w64, pos, ◌+ℤ◌, ◌-ℤ◌}
use Rattle.std.specs.Int.{w128}
use Rattle.std.proofs.lemmas.Int.{to_z-of_z, ints}
use Rattle.ped_views.proofs.Products.{linear}
use Rattle.ped_miv.proofs.Extremal.{within_four}
use Rattle.ped_miv.proofs.Corners.{triangle_extreme}
use Rattle.ped_miv.proofs.extremes.triangle_extremes.Goals as goal

pub returns-clause-extremes : goal.returns-clause-extremes
returns-clause-extremes c =
    let fl : FitsSigned w64 c.args.lo = c.ranges.lo in
    let fh : FitsSigned w64 c.args.hi = c.ranges.hi in
    let fa : FitsSigned w64 c.args.a = c.ranges.a in
    let fb : FitsSigned w64 c.args.b = c.ranges.b in
    let fl' : FitsSigned w64 (c.args.lo +ℤ pos 1) = omega (arith, linear) in
    let fh' : FitsSigned w64 (c.args.hi -ℤ pos 1) = omega (arith, linear) in
    let f1 : FitsSigned w128 c.corner.result = search rules in
    let f2 : FitsSigned w128 c.corner-2.result = search rules in
    let f3 : FitsSigned w128 c.corner-far.result = search rules in
    let e1 = simp to_z-of_z at c.corner.ensures.value in
    let e2 = simp to_z-of_z at c.corner-2.ensures.value in
    let e3 = simp to_z-of_z at c.corner-far.ensures.value in
    let l1 = simp to_z-of_z at c.between-edge.ensures.lo in
    let h1 = simp to_z-of_z at c.between-edge.ensures.hi in
    let l2 = simp to_z-of_z at c.between.ensures.lo in
    let h2 = simp to_z-of_z at c.between.ensures.hi in
    triangle_extreme c.args.a c.args.b c.args.lo c.args.hi c.corner.result c.corner-2.result c.corner-far.result c.join.result (omega (arith, ints)) e1 e2 e3 (simp (l1, l2) at c.join.ensures.lo) (simp (h1, h2) at c.join.ensures.hi)

pub returns-clause-small : goal.returns-clause-small
returns-clause-small c =
    let f1 : FitsSigned w128 c.corner.result = search rules in
    let f2 : FitsSigned w128 c.corner-2.result = search rules in
    let f3 : FitsSigned w128 c.corner-far.result = search rules in
    let l1 = simp to_z-of_z at c.between-edge.ensures.lo in
    let h1 = simp to_z-of_z at c.between-edge.ensures.hi in
    let l2 = simp to_z-of_z at c.between.ensures.lo in
    let h2 = simp to_z-of_z at c.between.ensures.hi in
    within_four c.corner.result c.corner-2.result c.corner-far.result c.corner-far.result c.join.result (simp (l1, l2) at c.join.ensures.lo) (simp (h1, h2) at c.join.ensures.hi) _ c.corner.ensures.small c.corner-2.ensures.small c.corner-far.ensures.small c.corner-far.ensures.small
