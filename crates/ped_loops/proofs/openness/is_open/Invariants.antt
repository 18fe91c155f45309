use Rattle.std.proofs.Common.{◌≡◌, drop, map, not}
use Rattle.std.specs.List.{list_any}
use Rattle.ped_tree.specs.Tree.{ProgramTree}
use Rattle.ped_edges.specs.CodeEdges.{edge_of}
use Rattle.ped_evidence.specs.Evidence.{disproves}
use Rattle.ped_evidence.specs.Lines.{lines_of, line_holds}
use Rattle.ped_loops.specs.ByEvidence.{is_open}
use Rattle.ped_loops.proofs.openness.is_open.Given as goal

abbrev pub invariant-loop-vector : goal.invariant-loop-vector
invariant-loop-vector l =
    (t : ProgramTree) → l.held ≡ map (line_holds t) l.evidence
    → list_any (λ v. not (disproves t (lines_of l.evidence) (edge_of l.edge) v)) (drop l.vector-index (edge_of l.edge).vectors) ≡ is_open t (lines_of l.evidence) (edge_of l.edge)
