use Rattle.std.proofs.Common.{◌≡◌, ℕ, ◌≤◌, ◌++◌, List, length, refl, sym, subst, arith}
use Rattle.std.proofs.lemmas.Result.{IfOk-weaker}
use Rattle.ped_views.specs.Views.{View}
use Rattle.ped_views.specs.Vectors.{AreVectors}
use Rattle.ped_edges.specs.Edges.{Edge}
use Rattle.ped_graph.specs.Held.{pair_by, held_edges}
use Rattle.ped_graph.specs.HeldPairs.{HeldPairEdges, rows_of}
use Rattle.ped_graph.specs.CodeFacts.{framed_of}
use Rattle.ped_graph.specs.Levels.{AreByLevel}
use Rattle.ped_graph.proofs.LevelOrder.{vectors_by_level}
use Rattle.ped_graph.proofs.printing.push_pair.Goals as goal

pub push_seen-requires-clause-ordered : goal.push_seen-requires-clause-ordered
push_seen-requires-clause-ordered g c =
    let vectors = c.in_ok-vectors.vectors.items in
    let these = subst (λ (x : View). AreVectors x vectors) (sym c.view.ensures) c.in_ok-vectors.ensures in
    subst (λ (n : ℕ). AreByLevel n vectors) (sym c.loop_count.ensures.count) (vectors_by_level c.view.result.now vectors these)

pub returns : goal.returns
returns g c =
    let f = framed_of c.args.facts.now in
    let v = c.view.result.now in
    let vectors = c.in_ok-vectors.vectors.items in
    let before = c.args.rows.now in
    let after = c.push_seen.new.rows in
    let few : length v.loops ≤ 6 = (let n = c.loop_count.ensures.count in let s = c.loop_count.ensures.few in omega (arith, n, s)) in
    let possible = subst (λ (x : View). AreVectors x vectors) (sym c.view.ensures) c.in_ok-vectors.ensures in
    IfOk-weaker c.push_seen.result _ _
    (λ added h. subst (λ (x : View). (edges : List Edge) × HeldPairEdges (pair_by f x) edges × (after ≡ before ++ rows_of edges) × (added ≡ length edges)) c.view.ensures
    (held_edges (pair_by f v) vectors, record { few = few; vectors = vectors; possible = possible; divided = refl }, h.0, h.1)) c.push_seen.ensures
