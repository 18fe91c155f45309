use Rattle.std.proofs.Common.{ℕ, ◌≤◌, ◌++◌, ◌∙◌, List, map, length, sym, ap, subst, arith}
use Rattle.ped_edges.specs.declared.edges.Edge.{Edge as CodeEdge}
use Rattle.ped_edges.specs.CodeEdges.{edge_of}
use Rattle.ped_graph.specs.Held.{pair_by, held_edges}
use Rattle.ped_graph.specs.CodeFacts.{framed_of}
use Rattle.ped_graph.specs.Levels.{AreByLevel}
use Rattle.ped_graph.proofs.LevelOrder.{vectors_by_level}
use Rattle.ped_graph.proofs.edges.edges_of_pair.Goals as goal

pub push_shared-requires-clause-ordered : goal.push_shared-requires-clause-ordered
push_shared-requires-clause-ordered c =
    let vectors = c.in_ok-vectors.vectors.items in
    subst (λ (n : ℕ). AreByLevel n vectors) (sym c.loop_count.ensures.count) (vectors_by_level c.args.view.now vectors c.in_ok-vectors.ensures)

pub returns-clause-edges : goal.returns-clause-edges
returns-clause-edges c =
    let v = c.args.view.now in
    let vectors = c.in_ok-vectors.vectors.items in
    let few : length v.loops ≤ 6 = (let n = c.loop_count.ensures.count in let s = c.loop_count.ensures.few in omega (arith, n, s)) in
    record { few = few; vectors = vectors; possible = c.in_ok-vectors.ensures; divided = c.in_ok-push_shared.ensures.edges ∙ ap (λ (es : List CodeEdge). map edge_of es ++ held_edges (pair_by (framed_of c.args.facts.now) v) vectors) c.new-edges.ensures.items }
