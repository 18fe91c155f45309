use Rattle.std.proofs.Common.{length, All, subst, sym, arith}
use Rattle.std.proofs.lemmas.List.Elements.{All-push}
use Rattle.ped_views.specs.Limits.{FitsLoops}
use Rattle.ped_affine.specs.Arguments.{setting_of, site}
use Rattle.ped_affine.proofs.PositionSteps.{none_left, one_more, at_end}
use Rattle.ped_affine.proofs.views.positions.Goals as goal

pub loop-i-preserved : goal.loop-i-preserved
loop-i-preserved c =
    let pair = c.args.pair.now in
    let d = pair.depths in
    record {
      value = one_more (setting_of pair.setting) (site pair.source) (site pair.sink) pair.source.subscripts.now pair.sink.subscripts.now c.loop-i.i c.loop-i.found.items c.push.new.self.items _
          c.index-left-i.result c.index-right-i.result c.in_ok-position.field-0 (omega arith) (omega arith) c.index-left-i.is c.index-right-i.is c.in_ok-position.ensures.value c.in_ok-push.ensures.items c.loop-i.invariant.value;
      fits = subst (All (FitsLoops d.common d.source d.sink)) (sym c.in_ok-push.ensures.items) (All-push (FitsLoops d.common d.source d.sink) c.loop-i.found.items c.in_ok-position.field-0 c.loop-i.invariant.fits c.in_ok-position.ensures.fits);
    }

pub returns-clause-value : goal.returns-clause-value
returns-clause-value c =
    let pair = c.args.pair.now in
    none_left (setting_of pair.setting) (site pair.source) (site pair.sink) pair.source.subscripts.now pair.sink.subscripts.now c.loop-i.i c.loop-i.found.items _
    (at_end (length pair.source.subscripts.now) (length pair.sink.subscripts.now) c.loop-i.i (omega arith)) c.loop-i.invariant.value
