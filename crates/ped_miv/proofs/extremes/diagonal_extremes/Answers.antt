use Rattle.std.proofs.Common.{arith, rules, FitsSigned, w64}
use Rattle.std.specs.Int.{w128}
use Rattle.std.proofs.lemmas.Int.{to_z-of_z, ints}
use Rattle.ped_miv.proofs.Extremal.{within_two}
use Rattle.ped_miv.proofs.Corners.{diagonal_extreme}
use Rattle.ped_miv.proofs.extremes.diagonal_extremes.Goals as goal

pub returns-clause-extremes : goal.returns-clause-extremes
returns-clause-extremes c =
    let fl : FitsSigned w64 c.args.lo = c.ranges.lo in
    let fh : FitsSigned w64 c.args.hi = c.ranges.hi in
    let fa : FitsSigned w64 c.args.a = c.ranges.a in
    let fb : FitsSigned w64 c.args.b = c.ranges.b in
    let f1 : FitsSigned w128 c.corner.result = search rules in
    let f2 : FitsSigned w128 c.corner-2.result = search rules in
    let e1 = simp to_z-of_z at c.corner.ensures.value in
    let e2 = simp to_z-of_z at c.corner-2.ensures.value in
    let l = simp to_z-of_z at c.between.ensures.lo in
    let h = simp to_z-of_z at c.between.ensures.hi in
    diagonal_extreme c.args.a c.args.b c.args.lo c.args.hi c.corner.result c.corner-2.result c.between.result (omega (arith, ints)) e1 e2 l h

pub returns-clause-small : goal.returns-clause-small
returns-clause-small c =
    let f1 : FitsSigned w128 c.corner.result = search rules in
    let f2 : FitsSigned w128 c.corner-2.result = search rules in
    let l = simp to_z-of_z at c.between.ensures.lo in
    let h = simp to_z-of_z at c.between.ensures.hi in
    within_two _ c.corner.result c.corner-2.result c.between.result l h c.corner.ensures.small c.corner-2.ensures.small
