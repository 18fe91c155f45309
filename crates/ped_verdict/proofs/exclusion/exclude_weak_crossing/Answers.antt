use Rattle.std.proofs.Common.{◌≡◌, refl, ap, length, arith}
use Rattle.std.proofs.lemmas.Grind.{common_steps}
use Rattle.ped_views.specs.Views.{View}
use Rattle.ped_verdict.specs.CodeForms.{occurrence_shown}
use Rattle.ped_verdict.proofs.Answering.{weak_crossing_added}
use Rattle.ped_verdict.proofs.exclusion.exclude_weak_crossing.Goals as goal

pub returns : goal.returns
returns c =
    let loops = ap (λ (v : View). length v.loops) c.view.view_is in
    let n : c.len.result ≡ length c.args.view.now.loops = grind (arith, common_steps) in
    weak_crossing_added c.args.view.now c.args.pair.now c.requires.usable _ c.view.view_is (occurrence_shown c.args.one) c.requires.place c.index-range.result.now c.index-range.ensures c.len.result n
    c.weak_crossing-before.result c.weak_crossing-same.result c.weak_crossing-after.result c.args.excluded.now c.mark_directions.new.row c.mark_directions.ensures
    _ refl c.weak_crossing-before.ensures c.weak_crossing-same.ensures c.weak_crossing-after.ensures c.requires.form
