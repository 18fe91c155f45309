use Rattle.std.proofs.Common.{◌≡◌, map, ap, ◌∙◌}
use Rattle.std.proofs.lemmas.Result.{IfOk-weaker}
use Rattle.ped_graph.specs.Held.{pairs_by, held_pairs}
use Rattle.ped_graph.specs.CodeFacts.{framed_of, views_in}
use Rattle.ped_graph.proofs.HeldEdges.{program_edges}
use Rattle.ped_graph.proofs.graph.Graph.whole_pane.Goals as goal

pub returns : goal.returns
returns g c =
    let ps = pairs_by (map framed_of c.pairs.result.now) (views_in c.deref.result.now) in
    let same : ps ≡ held_pairs c.args.self.now = (λ i. pairs_by (c.pairs.ensures i) (views_in (c.deref.ensures.value i))) ∙ ap held_pairs c.self.view_is in
    IfOk-weaker c.pane_of_pairs.result _ _ (λ pane (edges, these, is) t held. (edges, program_edges t c.args.self.now ps edges same held these, is)) c.pane_of_pairs.ensures
