use Rattle.std.proofs.Common.{◌≡◌, List, map, All, ap, sym, subst, ◌∙◌}
use Rattle.std.proofs.lemmas.Result.{IfOk-weaker}
use Rattle.ped_edges.specs.CodeEdges.{edge_of, HasAtMostSixLoops}
use Rattle.ped_edges.specs.Rows.{edges_pane}
use Rattle.ped_graph.specs.Held.{pairs_by, held_pairs}
use Rattle.ped_graph.specs.HeldSelections.{touches}
use Rattle.ped_graph.specs.CodeFacts.{framed_of, views_in}
use Rattle.ped_graph.proofs.HeldEdges.{program_edges}
use Rattle.ped_graph.proofs.Selecting.{same_touching, all_kept}
use Rattle.ped_graph.proofs.graph.Graph.pane_of.Goals as goal

pub edges_pane-requires : goal.edges_pane-requires
edges_pane-requires g c =
    subst (λ (es : List _). All HasAtMostSixLoops es) (sym c.deref-2.ensures.value)
    (all_kept HasAtMostSixLoops (λ e. touches c.args.number c.extent-extent.result (edge_of e)) c.in_ok-edges.edges.items c.keep_touching.new.edges.items c.keep_touching.ensures c.in_ok-edges.ensures.short)

pub returns : goal.returns
returns g c =
    let ps = pairs_by (map framed_of c.pairs.result.now) (views_in c.deref.result.now) in
    let same : ps ≡ held_pairs c.args.self.now = (λ i. pairs_by (c.pairs.ensures i) (views_in (c.deref.ensures.value i))) ∙ ap held_pairs c.self.view_is in
    let these = c.in_ok-edges.ensures.edges in
    let text = ap (λ (es : List _). edges_pane (map edge_of es)) c.deref-2.ensures.value in
    IfOk-weaker c.edges_pane.result _ _ (λ pane is t held. (
      these.0,
      program_edges t c.args.self.now ps these.0 same held these.1,
      is ∙ text ∙ ap edges_pane (same_touching t c.args.number c.extent-extent.result c.in_ok-edges.edges.items these.0 c.keep_touching.new.edges.items (c.extent-extent.ensures t held) c.keep_touching.ensures these.2),
    )) c.edges_pane.ensures
