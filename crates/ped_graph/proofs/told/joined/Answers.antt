use Rattle.std.proofs.Common.{◌≡◌, ◌-◌, ◌∙◌, ap, length, List, take, drop, arith}
use Rattle.std.proofs.lemmas.List.{length-take-le, length-drop}
use Rattle.ped_views.specs.Views.{Range, View}
use Rattle.ped_graph.proofs.ToldViews.{fits_view}
use Rattle.ped_graph.proofs.told.joined.Goals as goal

pub invariant_of-result : goal.invariant_of-result
invariant_of-result c =
    let k = c.args.common in
    let first = c.args.source.now.loops in
    let second = c.args.sink.now.loops in
    let n = length first in
    let m = length second in
    let source = ap (λ (v : View). length v.loops) c.source.view_is in
    let sink = ap (λ (v : View). length v.loops) c.sink.view_is in
    let deep = c.source.invariant.source_depth in
    let low = c.sink.invariant.source_depth in
    let within = c.requires.source in
    let below = c.requires.sink in
    let loops : length c.in_ok-loops.loops.items ≡ k =
    ap (λ (rs : List Range). length rs) (c.in_ok-loops.ensures ∙ ap (take k) (c.deref.ensures.value ∙ ap (λ (v : View). v.loops) c.source.view_is)) ∙ length-take-le k first within in
    let inner : length c.in_ok-source_inner.source_inner.items ≡ n - k =
    ap (λ (rs : List Range). length rs) (c.in_ok-source_inner.ensures ∙ ap (drop k) (c.deref-2.ensures.value ∙ ap (λ (v : View). v.loops) c.source.view_is)) ∙ length-drop k first in
    let further : length c.in_ok-sink_inner.sink_inner.items ≡ m - k =
    ap (λ (rs : List Range). length rs) (c.in_ok-sink_inner.ensures ∙ ap (drop k) (c.deref-3.ensures.value ∙ ap (λ (v : View). v.loops) c.sink.view_is)) ∙ length-drop k second in
    fits_view c.in_ok-loops.loops.items c.in_ok-source_inner.source_inner.items c.in_ok-sink_inner.sink_inner.items c.in_ok-positions.positions.items k (n - k) (m - k)
    loops inner further (omega arith) (omega arith) c.in_ok-positions.ensures.fit

pub returns-clause-loops : goal.returns-clause-loops
returns-clause-loops c = c.in_ok-loops.ensures ∙ ap (take c.args.common) (c.deref.ensures.value ∙ ap (λ (v : View). v.loops) c.source.view_is)

pub returns-clause-source_inner : goal.returns-clause-source_inner
returns-clause-source_inner c = c.in_ok-source_inner.ensures ∙ ap (drop c.args.common) (c.deref-2.ensures.value ∙ ap (λ (v : View). v.loops) c.source.view_is)

pub returns-clause-sink_inner : goal.returns-clause-sink_inner
returns-clause-sink_inner c = c.in_ok-sink_inner.ensures ∙ ap (drop c.args.common) (c.deref-3.ensures.value ∙ ap (λ (v : View). v.loops) c.sink.view_is)
