use Rattle.std.proofs.Common.{◌≡◌, [], drop, map}
use Rattle.ped_refs.specs.Occurrences.{name_text}
use Rattle.ped_tree.specs.Names.Collecting.{with_names}
use Rattle.ped_edges.specs.CodeEdges.{edge_of}
use Rattle.ped_session.proofs.carrying.names_once.Given as goal

abbrev pub invariant-loop-edge : goal.invariant-loop-edge
invariant-loop-edge l =
    with_names (map name_text l.names.items) (map (λ e. (edge_of e).name) (drop l.edge-index l.edges)) ≡ with_names [] (map (λ e. (edge_of e).name) l.edges)
