use Rattle.std.proofs.Common.{◌≡◌, ◌<◌, ◌∙◌, List, map, length, Some, slice_get, ap, subst, sym, arith}
use Rattle.std.proofs.lemmas.Result.{IfOk-weaker}
use Rattle.ped_views.specs.Views.{View}
use Rattle.ped_refs.specs.References.{Reference, references, pairs}
use Rattle.ped_edges.specs.CodeEdges.{edge_of}
use Rattle.ped_graph.specs.CodeFacts.{framed_of}
use Rattle.ped_graph.specs.Dependences.{facts_of, view_of}
use Rattle.ped_graph.specs.Held.{Framed, Held, framed, pair_by}
use Rattle.ped_graph.specs.HeldPairs.{HeldPairEdges}
use Rattle.ped_graph.proofs.HeldEdges.{pair_edges}
use Rattle.ped_graph.proofs.Slices.{item_there, mapped_at, length_mapped}
use Rattle.ped_graph.proofs.graph.Prepared.edges_of.Goals as goal

some_one : {X : Type 0} (a b : X) → Some a ≡ Some b → a ≡ b
some_one a b e = cc

pub returns-clause-edges : goal.returns-clause-edges
returns-clause-edges c =
    let n = c.args.n in
    let facts = c.pairs.result.now in
    let x = c.index-pairs-place.result in
    let v = c.index.result.now in
    let held = c.args.self.now in
    let many : length facts ≡ length held.frame.pairs = sym (length_mapped framed_of facts) ∙ ap (λ (fs : List Framed). length fs) c.pairs.ensures ∙ ap (λ (h : Held). length h.frame.pairs) c.self.view_is in
    let below : n < length facts = (let r = c.requires.pairs in omega (arith, many, r)) in
    let facts_at : slice_get (map framed_of facts) n ≡ Some (framed_of x) = mapped_at framed_of facts n x (item_there facts n x c.index-pairs-place.is below) in
    let some = ap (λ (h : Held). length h.views) c.self.view_is in
    let inside : n < length c.self.inside.views.items = (let r = c.requires.views in omega (arith, some, r)) in
    let view_at : slice_get c.self.inside.views.items n ≡ Some v = item_there c.self.inside.views.items n v c.index.ensures inside in
    IfOk-weaker c.edges_of_pair.result _ _
    (λ edges h t p is at.
    let fs : framed_of x ≡ framed (facts_of t) p.0 p.1 =
    some_one (framed_of x) (framed (facts_of t) p.0 p.1)
    (sym facts_at ∙ ap (λ (fs : List Framed). slice_get fs n) c.pairs.ensures ∙ ap (λ (h : Held). slice_get h.frame.pairs n) (c.self.view_is ∙ is)
    ∙ mapped_at (λ (p : Reference × Reference). framed (facts_of t) p.0 p.1) (pairs (references t)) n p at) in
    let vs : v ≡ view_of t p.0 p.1 =
    some_one v (view_of t p.0 p.1)
    (sym view_at ∙ ap (λ (h : Held). slice_get h.views n) (c.self.view_is ∙ is)
    ∙ mapped_at (λ (p : Reference × Reference). view_of t p.0 p.1) (pairs (references t)) n p at) in
    pair_edges t p.0 p.1 (map edge_of edges.items) (subst (λ (f : Framed). HeldPairEdges (pair_by f (view_of t p.0 p.1)) (map edge_of edges.items)) fs (subst (λ (w : View). HeldPairEdges (pair_by (framed_of x) w) (map edge_of edges.items)) vs h))) c.edges_of_pair.ensures.edges
