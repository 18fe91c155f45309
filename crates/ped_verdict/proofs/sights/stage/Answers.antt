use Rattle.std.proofs.Common.{◌≤◌, length, subst, rules}
use Rattle.ped_views.specs.Limits.{IsPosition}
use Rattle.ped_verdict.proofs.Begun.{zero_done}
use Rattle.ped_verdict.proofs.Asked.{stage_none, stage_here, stage_kept}
use Rattle.ped_verdict.proofs.sights.stage.Goals as goal
use Rattle.ped_verdict.proofs.sights.stage.Goals.{then-occurs, else-occurs}

pub loop-place-init : goal.loop-place-init
loop-place-init c = stage_none c.args.pair.now

pub loop-place-preserved : goal.loop-place-preserved
loop-place-preserved c = elim c.if-occurs.branch [
  | then-occurs w ↦ stage_here c.args.pair.now c.loop-place.stage c.loop-place.place c.if-occurs.stage c.loop-place.invariant c.occurs.result c.occurs.ensures w.if-occurs.true w.stage-is
  | else-occurs w ↦ stage_kept c.args.pair.now c.loop-place.stage c.loop-place.place c.if-occurs.stage c.loop-place.invariant c.occurs.result c.occurs.ensures w.if-occurs.false w.stage-is
]

pub returns-clause-done : goal.returns-clause-done
returns-clause-done c =
    let past : length c.args.pair.now.source.common ≤ c.loop-place.place = search rules in
    zero_done c.args.pair.now c.loop-place.stage c.loop-place.place (subst IsPosition c.pair.view_is c.pair.invariant) past c.loop-place.invariant.source c.loop-place.invariant.sink

pub returns-clause-last : goal.returns-clause-last
returns-clause-last c = c.loop-place.invariant.last
