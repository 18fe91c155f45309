use Rattle.std.proofs.Common.{arith, rules, FitsSigned, w64, ◌∙◌, sym}
use Rattle.std.proofs.lemmas.Int.{to_z-of_z, ints}
use Rattle.ped_views.proofs.Products.{linear}
use Rattle.ped_miv.proofs.InOneLoop.{no_index, any_found, same_found, before_found, after_found}
use Rattle.ped_miv.proofs.extremes.loop_extremes.Goals as goal

pub returns-then-b-eq0-clause-extremes : goal.returns-then-b-eq0-clause-extremes
returns-then-b-eq0-clause-extremes c = no_index c.args.range.now c.args.direction c.args.a c.args.b (omega (arith, ints)) (omega (arith, ints))

pub returns-in-None-clause-extremes : goal.returns-in-None-clause-extremes
returns-in-None-clause-extremes c =
    let fa : FitsSigned w64 c.args.a = c.ranges.a in
    let fb : FitsSigned w64 c.args.b = c.ranges.b in
    let fl : FitsSigned w64 c.range.inside.lo = search rules in
    let fh : FitsSigned w64 c.range.inside.hi = search rules in
    any_found _ c.args.range.now c.args.direction c.args.a c.args.b c.square_extremes.result c.range.view_is c.else-a-eq0.either c.in-None.is (simp to_z-of_z at c.square_extremes.ensures.extremes)

pub returns-in-Before-clause-extremes : goal.returns-in-Before-clause-extremes
returns-in-Before-clause-extremes c =
    let fa : FitsSigned w64 c.args.a = c.ranges.a in
    let fb : FitsSigned w64 c.args.b = c.ranges.b in
    let fl : FitsSigned w64 c.range.inside.lo = search rules in
    let fh : FitsSigned w64 c.range.inside.hi = search rules in
    let fs : FitsSigned w64 c.range.inside.step = search rules in
    let turns = simp to_z-of_z at c.by_value.ensures in
    before_found _ c.args.range.now c.args.direction c.args.a c.args.b c.triangle_extremes.result c.range.view_is c.else-a-eq0.either c.in-Some.d c.in-Some.is (sym turns ∙ c.in-Before.is) (simp to_z-of_z at c.triangle_extremes.ensures.extremes)

pub returns-in-Same-clause-extremes : goal.returns-in-Same-clause-extremes
returns-in-Same-clause-extremes c =
    let fa : FitsSigned w64 c.args.a = c.ranges.a in
    let fb : FitsSigned w64 c.args.b = c.ranges.b in
    let fl : FitsSigned w64 c.range.inside.lo = search rules in
    let fh : FitsSigned w64 c.range.inside.hi = search rules in
    let fs : FitsSigned w64 c.range.inside.step = search rules in
    let turns = simp to_z-of_z at c.by_value.ensures in
    same_found _ c.args.range.now c.args.direction c.args.a c.args.b c.diagonal_extremes.result c.range.view_is c.else-a-eq0.either c.in-Some.d c.in-Some.is (sym turns ∙ c.in-Same.is) (simp to_z-of_z at c.diagonal_extremes.ensures.extremes)

pub returns-in-After-clause-extremes : goal.returns-in-After-clause-extremes
returns-in-After-clause-extremes c =
    let fa : FitsSigned w64 c.args.a = c.ranges.a in
    let fb : FitsSigned w64 c.args.b = c.ranges.b in
    let fl : FitsSigned w64 c.range.inside.lo = search rules in
    let fh : FitsSigned w64 c.range.inside.hi = search rules in
    let fs : FitsSigned w64 c.range.inside.step = search rules in
    let turns = simp to_z-of_z at c.by_value.ensures in
    after_found _ c.args.range.now c.args.direction c.args.a c.args.b c.triangle_extremes-in-After.result c.range.view_is c.else-a-eq0.either c.in-Some.d _ _ c.in-Some.is (sym turns ∙ c.in-After.is) (omega (arith, linear)) (omega (arith, linear)) (simp to_z-of_z at c.triangle_extremes-in-After.ensures.extremes)
