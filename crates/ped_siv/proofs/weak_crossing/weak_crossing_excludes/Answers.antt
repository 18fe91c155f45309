use Rattle.std.proofs.Common.{rules, refl, FitsSigned, w64, Some, None}
use Rattle.std.specs.Int.{w128}
use Rattle.std.proofs.lemmas.Int.{to_z-of_z}
use Rattle.ped_siv.proofs.Answering.{quotient_at}
use Rattle.ped_siv.proofs.Sums.{never_whole, decided_by_sum_at}
use Rattle.ped_siv.proofs.weak_crossing.weak_crossing_excludes.Goals as goal

pub returns-in-None : goal.returns-in-None
returns-in-None c =
    let fa : FitsSigned w64 c.args.a = c.ranges.a in
    let fb : FitsSigned w64 c.args.b = c.ranges.b in
    let f1 : FitsSigned w64 c.args.c1 = c.ranges.c1 in
    let f2 : FitsSigned w64 c.args.c2 = c.ranges.c2 in
    let ff : FitsSigned w128 c.from.result = search rules in
    let fd : FitsSigned w128 c.difference.result = search rules in
    let e = simp to_z-of_z at c.from.ensures in
    let d = simp to_z-of_z at c.difference.ensures.value in
    let m = quotient_at None _ _ _ _ e d (simp to_z-of_z at c.in-None.ensures.divides) in
    let never = never_whole c.args.a c.args.b c.args.c1 c.args.c2 c.args.range.now c.args.d c.requires.form m in
    (λ t. never, λ n. refl)

pub returns-in-Some : goal.returns-in-Some
returns-in-Some c =
    let fa : FitsSigned w64 c.args.a = c.ranges.a in
    let f1 : FitsSigned w64 c.args.c1 = c.ranges.c1 in
    let f2 : FitsSigned w64 c.args.c2 = c.ranges.c2 in
    let fl : FitsSigned w64 c.range.inside.lo = search rules in
    let fh : FitsSigned w64 c.range.inside.hi = search rules in
    let fs : FitsSigned w64 c.range.inside.step = search rules in
    let ff : FitsSigned w128 c.from.result = search rules in
    let fd : FitsSigned w128 c.difference.result = search rules in
    let fq : FitsSigned w128 c.in-Some.sum = search rules in
    let ft : FitsSigned w128 c.twice.result = search rules in
    let fu : FitsSigned w128 c.twice-in-Some.result = search rules in
    let e = simp to_z-of_z at c.from.ensures in
    let d = simp to_z-of_z at c.difference.ensures.value in
    let is = quotient_at (Some c.in-Some.sum) _ _ _ _ e d (simp to_z-of_z at c.in-Some.ensures.divides) in
    let turns = simp to_z-of_z at c.by_value.ensures in
    let least = simp to_z-of_z at c.twice.ensures in
    let greatest = simp to_z-of_z at c.twice-in-Some.ensures in
    let fits = simp to_z-of_z at c.fits_sum.ensures in
    decided_by_sum_at c.args.a c.args.b c.args.c1 c.args.c2 _ c.args.range.now c.args.d _ c.in-Some.sum _ _ c.fits_sum.result c.requires.form c.requires.coefficient c.range.view_is turns least greatest is fits
