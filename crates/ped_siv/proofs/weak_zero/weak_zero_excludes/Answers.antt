use Rattle.std.proofs.Common.{◌≡◌, arith, rules, pos, FitsSigned, w64}
use Rattle.std.specs.Int.{w128}
use Rattle.std.proofs.lemmas.Int.{to_z-of_z, ints}
use Rattle.ped_siv.proofs.Points.{at_source_by_code, at_sink_by_code, zero_at_source}
use Rattle.ped_siv.proofs.weak_zero.weak_zero_excludes.Goals as goal

pub returns-then-b-eq0 : goal.returns-then-b-eq0
returns-then-b-eq0 c =
    let fa : FitsSigned w64 c.args.a = c.ranges.a in
    let fb : FitsSigned w64 c.args.b = c.ranges.b in
    let f1 : FitsSigned w64 c.args.c1 = c.ranges.c1 in
    let f2 : FitsSigned w64 c.args.c2 = c.ranges.c2 in
    let fs : FitsSigned w64 c.range.inside.step = search rules in
    let fd : FitsSigned w128 c.difference.result = search rules in
    let zero : c.args.b ≡ pos 0 = omega (arith, ints) in
    let turns = simp to_z-of_z at c.by_value-d.ensures in
    let is = simp to_z-of_z at c.difference.ensures.value in
    at_source_by_code c.args.a c.args.b c.args.c1 c.args.c2 _ _ c.args.range.now c.args.d _ c.has_no_point.result zero c.range.view_is turns is (simp to_z-of_z at c.has_no_point.ensures)

pub returns-else-b-eq0 : goal.returns-else-b-eq0
returns-else-b-eq0 c =
    let fa : FitsSigned w64 c.args.a = c.ranges.a in
    let fb : FitsSigned w64 c.args.b = c.ranges.b in
    let f1 : FitsSigned w64 c.args.c1 = c.ranges.c1 in
    let f2 : FitsSigned w64 c.args.c2 = c.ranges.c2 in
    let fs : FitsSigned w64 c.range.inside.step = search rules in
    let fd : FitsSigned w128 c.difference-else-b-eq0.result = search rules in
    let some : ¬ (c.args.b ≡ pos 0) = omega (arith, ints) in
    let zero = zero_at_source c.args.a c.args.b c.requires.form some in
    let turns = simp to_z-of_z at c.by_value-d.ensures in
    let is = simp to_z-of_z at c.difference-else-b-eq0.ensures.value in
    at_sink_by_code c.args.a c.args.b c.args.c1 c.args.c2 _ _ c.args.range.now c.args.d _ _ c.has_no_point-else-b-eq0.result zero c.range.view_is turns c.turned.ensures is (simp to_z-of_z at c.has_no_point-else-b-eq0.ensures)
