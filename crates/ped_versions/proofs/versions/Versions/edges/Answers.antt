use Rattle.std.proofs.Common.{map, ap, length, sym, ◌∙◌}
use Rattle.std.proofs.lemmas.List.{length-map}
use Rattle.ped_update.specs.ped_graph.specs.ped_edges.specs.CodeEdges.{edge_of}
use Rattle.ped_versions.specs.States.{State}
use Rattle.ped_versions.proofs.PresentProgram.{graph_of, as_many}
use Rattle.ped_versions.proofs.versions.Versions.edges.Goals as goal

pub returns : goal.returns
returns g c t reads edges are =
    let s = c.self.inside in
    let held = graph_of s.present s.graph s.history.past s.history.future c.self.invariant c.args.self.now.present (ap (λ (u : State). u.present) c.self.view_is) t reads in
    ap length c.as_slice.ensures.value ∙ sym (length-map c.in_ok-found.found.items edge_of) ∙ as_many (map edge_of c.in_ok-found.found.items) t (c.in_ok-found.ensures.edges t held) edges are
