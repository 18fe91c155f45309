use Rattle.std.proofs.Common.{◌-◌, ◌+◌, ◌<◌, List, length, All, subst, sym, rules}
use Rattle.std.proofs.lemmas.List.Elements.{All-push}
use Rattle.ped_views.specs.Views.{SubscriptPair}
use Rattle.ped_views.specs.Limits.{FitsLoops}
use Rattle.ped_graph.proofs.Slices.{get_there}
use Rattle.ped_graph.proofs.ToldViews.{AreToldAhead, one_usable, told_more, told_all}
use Rattle.ped_graph.proofs.told.positions.Goals as goal

pub loop-i-preserved : goal.loop-i-preserved
loop-i-preserved c =
    let k = c.args.common in
    let n = length c.args.source.now.loops - k in
    let m = length c.args.sink.now.loops - k in
    let ps = c.args.source.now.positions in
    let qs = c.args.sink.now.positions in
    let i = c.loop-i.i in
    let added = c.in_ok-push_position.ensures in
    let p = added.0 in
    let below : i < length ps = search rules in
    let within : i < length qs = search rules in
    let left = get_there ps i p below in
    let right = get_there qs i p within in
    record {
      fit = subst (All (FitsLoops k n m)) (sym added.1) (All-push (FitsLoops k n m) c.loop-i.found.items p c.loop-i.invariant.fit added.2);
      told = λ first second. subst (λ (xs : List SubscriptPair). AreToldAhead k (i + 1) ps qs xs) (sym added.1)
          (told_more k i ps qs c.loop-i.found.items _ _ p left right (added.3 _ _ left right (one_usable ps i _ first left) (one_usable qs i _ second right)) (c.loop-i.invariant.told first second));
    }

pub returns-clause-told : goal.returns-clause-told
returns-clause-told c = λ first second.
    told_all c.args.common c.loop-i.i c.args.source.now.positions c.args.sink.now.positions c.loop-i.found.items c.position_count.result c.position_count-2.result c.position_count.ensures c.position_count-2.ensures
    (c.shorter-count.ensures.one c.loop-i.i c.loop-i-test.false) (c.loop-i.invariant.told first second)
