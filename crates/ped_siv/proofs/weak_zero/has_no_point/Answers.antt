use Rattle.std.proofs.Common.{rules, FitsSigned, w64, refl, Some}
use Rattle.std.specs.Int.{w128}
use Rattle.std.proofs.lemmas.Int.{to_z-of_z}
use Rattle.ped_siv.proofs.Answering.{quotient_at}
use Rattle.ped_siv.proofs.Points.{decided_by_partner_at}
use Rattle.ped_siv.proofs.weak_zero.has_no_point.Goals as goal

pub returns-in-Some : goal.returns-in-Some
returns-in-Some c =
    let fa : FitsSigned w64 c.args.a = c.ranges.a in
    let fn : FitsSigned w128 c.args.n = c.ranges.n in
    let fl : FitsSigned w64 c.range.inside.lo = search rules in
    let fh : FitsSigned w64 c.range.inside.hi = search rules in
    let ff : FitsSigned w128 c.from.result = search rules in
    let fq : FitsSigned w128 c.in-Some.i = search rules in
    let ft : FitsSigned w128 c.from-in-Some.result = search rules in
    let fu : FitsSigned w128 c.from-in-Some-2.result = search rules in
    let e = simp to_z-of_z at c.from.ensures in
    let is = quotient_at (Some c.in-Some.i) _ _ _ _ e refl (simp to_z-of_z at c.in-Some.ensures.divides) in
    let lo = simp to_z-of_z at c.from-in-Some.ensures in
    let hi = simp to_z-of_z at c.from-in-Some-2.ensures in
    let has = simp to_z-of_z at c.has_partner.ensures in
    decided_by_partner_at c.args.a c.args.n _ c.args.range.now c.args.d c.in-Some.i _ _ c.has_partner.result c.requires.coefficient c.range.view_is lo hi is has
