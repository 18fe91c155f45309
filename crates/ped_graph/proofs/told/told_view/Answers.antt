use Rattle.std.proofs.Common.{sym, ◌∙◌}
use Rattle.ped_graph.proofs.SideLaws.{view_told}
use Rattle.ped_graph.proofs.told.told_view.Goals as goal

pub returns : goal.returns
returns c = λ s a b left right.
    let first = c.is_plain.ensures c.if-not-is_plain.false in
    let second = c.is_plain-2.ensures c.if-not-is_plain-2.false in
    view_told c.args.source.now c.args.sink.now c.common_depth-common.result c.in_ok-view.view c.common_depth-common.ensures (record {
      source_alone = first.alone;
      sink_alone = second.alone;
      loops = c.in_ok-view.ensures.loops;
      source_inner = c.in_ok-view.ensures.source_inner;
      sink_inner = c.in_ok-view.ensures.sink_inner;
      positions = c.in_ok-view.ensures.positions (sym left.usable ∙ first.usable) (sym right.usable ∙ second.usable);
    }) s a b left right
