use Rattle.std.proofs.Common.{◌≡◌, ℕ, ◌≤◌, ◌++◌, List, map, length, refl, sym, subst, arith}
use Rattle.std.proofs.lemmas.Result.{on_ok_weaker}
use Rattle.ped_views.specs.Views.{View}
use Rattle.ped_views.specs.Vectors.{AreVectors}
use Rattle.ped_edges.specs.Edges.{Edge}
use Rattle.ped_edges.specs.CodeEdges.{edge_of}
use Rattle.ped_graph.specs.Held.{pair_by, held_edges}
use Rattle.ped_graph.specs.HeldPairs.{HeldPairEdges}
use Rattle.ped_graph.specs.CodeFacts.{framed_of}
use Rattle.ped_graph.specs.Levels.{AreByLevel}
use Rattle.ped_graph.proofs.LevelOrder.{vectors_by_level}
use Rattle.ped_graph.proofs.edges.push_tested.Goals as goal

pub push_shared-requires-clause-ordered : goal.push_shared-requires-clause-ordered
push_shared-requires-clause-ordered g c =
    let vectors = c.in_ok-vectors.vectors.items in
    let these = subst (λ (x : View). AreVectors x vectors) (sym c.view.ensures) c.in_ok-vectors.ensures in
    subst (λ (n : ℕ). AreByLevel n vectors) (sym c.loop_count.ensures.count) (vectors_by_level c.view.result.now vectors these)

pub returns-clause-edges : goal.returns-clause-edges
returns-clause-edges g c =
    let f = framed_of c.args.facts.now in
    let v = c.view.result.now in
    let vectors = c.in_ok-vectors.vectors.items in
    let before = map edge_of c.args.edges.now.items in
    let few : length v.loops ≤ 6 = (let n = c.loop_count.ensures.count in let s = c.loop_count.ensures.few in omega (arith, n, s)) in
    let possible = subst (λ (x : View). AreVectors x vectors) (sym c.view.ensures) c.in_ok-vectors.ensures in
    on_ok_weaker c.push_shared.result
    (λ e. subst (λ (x : View). (added : List Edge) × (map edge_of c.push_shared.new.edges.items ≡ before ++ added) × HeldPairEdges (pair_by f x) added) c.view.ensures
    (held_edges (pair_by f v) vectors, e, record { few = few; vectors = vectors; possible = possible; divided = refl })) c.push_shared.ensures.edges
