use Rattle.std.proofs.Common.{◌≡◌, drop}
use Rattle.std.specs.List.{list_any}
use Rattle.ped_edges.specs.CodeEdges.{edge_of}
use Rattle.ped_edges.specs.declared.edges.Edge.{Edge}
use Rattle.ped_loops.specs.Rejecting.{is_pending_of}
use Rattle.ped_loops.proofs.rejecting.is_some_pending.Given as goal

abbrev pub invariant-loop-edge : goal.invariant-loop-edge
invariant-loop-edge l = list_any (λ (e : Edge). is_pending_of l.name (edge_of e)) (drop l.edge-index l.edges) ≡ list_any (λ (e : Edge). is_pending_of l.name (edge_of e)) l.edges
