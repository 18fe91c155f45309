use Rattle.std.proofs.Common.{◌≡◌, map, ap, ◌∙◌}
use Rattle.ped_edges.specs.CodeEdges.{edge_of, HasAtMostSixLoops}
use Rattle.ped_graph.specs.Held.{pairs_by, held_pairs}
use Rattle.ped_graph.specs.HeldSelections.{is_carried_in}
use Rattle.ped_graph.specs.CodeFacts.{framed_of, views_in}
use Rattle.ped_graph.proofs.HeldEdges.{program_edges}
use Rattle.ped_graph.proofs.Selecting.{same_carried_in, same_of_level, all_kept}
use Rattle.ped_graph.proofs.graph.Graph.edges_at.Goals as goal

pub returns-clause-edges : goal.returns-clause-edges
returns-clause-edges g c t held =
    let ps = pairs_by (map framed_of c.pairs.result.now) (views_in c.deref.result.now) in
    let same : ps ≡ held_pairs c.args.self.now = (λ i. pairs_by (c.pairs.ensures i) (views_in (c.deref.ensures.value i))) ∙ ap held_pairs c.self.view_is in
    let found = c.in_ok-edges.edges.items in
    let these = c.in_ok-edges.ensures.edges in (
      these.0,
      program_edges t c.args.self.now ps these.0 same held these.1,
      same_carried_in t c.args.statement c.extent-extent.result c.args.level found these.0 c.keep_carried_in.new.edges.items (c.extent-extent.ensures t held) c.keep_carried_in.ensures (same_of_level c.args.statement c.extent-extent.result c.args.level (map edge_of found) these.0 these.2),
    )

pub returns-clause-short : goal.returns-clause-short
returns-clause-short g c =
    all_kept HasAtMostSixLoops (λ e. is_carried_in c.args.statement c.extent-extent.result c.args.level (edge_of e)) c.in_ok-edges.edges.items c.keep_carried_in.new.edges.items c.keep_carried_in.ensures c.in_ok-edges.ensures.short
