use Rattle.std.proofs.Common.{◌≡◌, List, map, ap, subst, ◌∙◌}
use Rattle.std.proofs.lemmas.Result.{IfOk-weaker}
use Rattle.ped_edges.specs.Edges.{Edge}
use Rattle.ped_edges.specs.CodeEdges.{edge_of}
use Rattle.ped_graph.specs.Held.{pairs_by, held_pairs}
use Rattle.ped_graph.specs.HeldPairs.{AreHeldEdges}
use Rattle.ped_graph.specs.CodeFacts.{framed_of, views_in}
use Rattle.ped_graph.proofs.HeldEdges.{program_edges}
use Rattle.ped_graph.proofs.Selecting.{all_same}
use Rattle.ped_graph.proofs.graph.Graph.edges.Goals as goal

pub returns-clause-edges : goal.returns-clause-edges
returns-clause-edges g c =
    let ps = pairs_by (map framed_of c.pairs.result.now) (views_in c.deref.result.now) in
    let same : ps ≡ held_pairs c.args.self.now = (λ i. pairs_by (c.pairs.ensures i) (views_in (c.deref.ensures.value i))) ∙ ap held_pairs c.self.view_is in
    IfOk-weaker c.edges_asked.result _ _ (λ edges these t is.
    let all = subst (λ (es : List Edge). AreHeldEdges ps es) (all_same (map edge_of edges.items) these.0 these.2) these.1 in
    program_edges t c.args.self.now ps (map edge_of edges.items) same is all) c.edges_asked.ensures.edges
