use Rattle.std.proofs.Common.{rules, FitsSigned, w64}
use Rattle.std.specs.Int.{w128}
use Rattle.std.proofs.lemmas.Int.{to_z-of_z}
use Rattle.ped_siv.proofs.Distances.{fits_range_at}
use Rattle.ped_siv.proofs.strong.fits_range.Goals as goal

pub returns-then-fits_span : goal.returns-then-fits_span
returns-then-fits_span c =
    let fd : FitsSigned w128 c.args.distance = c.ranges.distance in
    let fl : FitsSigned w64 c.range.inside.lo = search rules in
    let fh : FitsSigned w64 c.range.inside.hi = search rules in
    let fs : FitsSigned w64 c.range.inside.step = search rules in
    let fp : FitsSigned w128 c.difference-span.result = search rules in
    let span = simp to_z-of_z at c.difference-span.ensures.value in
    let turns = simp to_z-of_z at c.by_value.ensures in
    let fits = simp to_z-of_z at c.fits_span.ensures in
    let steps = simp to_z-of_z at c.in_step.ensures in
    fits_range_at _ c.args.range.now c.args.d _ c.args.distance _ c.fits_span.result c.in_step.result c.range.view_is turns span fits c.if-fits_span.true steps
