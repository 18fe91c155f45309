use Rattle.std.proofs.Common.{◌≡◌, ap, length, arith}
use Rattle.std.proofs.lemmas.Grind.{common_steps}
use Rattle.ped_views.specs.Views.{View}
use Rattle.ped_verdict.proofs.Sighted.{more_parts, all_first_parts}
use Rattle.ped_verdict.proofs.sights.all_parts.Goals as goal

pub loop-place-preserved : goal.loop-place-preserved
loop-place-preserved c = more_parts c.loop-place.place c.args.view.now.loops c.args.position.now.source.common c.args.position.now.sink.common c.loop-place.parts.items c.push.new.self.items c.loop_parts.result c.in_ok-push.ensures.items c.loop_parts.ensures c.loop-place.invariant

pub returns : goal.returns
returns c =
    let loops = ap (λ (w : View). length w.loops) c.view.view_is in
    let n : c.len-place-end.result ≡ length c.args.view.now.loops = grind (arith, common_steps) in
    let past = c.loop-place-test.false in
    let within = c.loop-place.auto.place-end in
    all_first_parts c.loop-place.place c.args.view.now.loops c.args.position.now.source.common c.args.position.now.sink.common c.loop-place.parts.items c.loop-place.invariant (omega arith)
