-- Each program has its dependences, pair by pair.
use Rattle.std.proofs.Common.{refl, List, [], ◌∷◌, ◌++◌}
use Rattle.ped_tree.specs.Tree.{ProgramTree}
use Rattle.ped_refs.specs.References.{Reference, references, pairs}
use Rattle.ped_edges.specs.Edges.{Edge}
use Rattle.ped_rules.specs.ped_graph.specs.Dependences.{facts_of, view_of, edges_by, PairEdges, EdgesOfPairs, AreEdges}
use Rattle.ped_splits.proofs.Existence.Choosing.{vectors_of_view}

edges_of_pair : (t : ProgramTree) (source sink : Reference) → (edges : List Edge) × PairEdges t source sink edges
edges_of_pair t source sink =
    let v = vectors_of_view (view_of t source sink) in
    (edges_by (facts_of t) source sink (view_of t source sink) v.0, record { vectors = v.0; possible = v.1; divided = refl })

pub edges_of_pairs : (t : ProgramTree) (ps : List (Reference × Reference)) → (edges : List Edge) × EdgesOfPairs t ps edges
edges_of_pairs t [] = ([], refl)
edges_of_pairs t (p ∷ ps) =
    let first = edges_of_pair t p.0 p.1 in
    let rest = edges_of_pairs t ps in
    (first.0 ++ rest.0, (first.0, rest.0, refl, first.1, rest.1))

pub edges_of_program : (t : ProgramTree) → (edges : List Edge) × AreEdges t edges
edges_of_program t = edges_of_pairs t (pairs (references t))
