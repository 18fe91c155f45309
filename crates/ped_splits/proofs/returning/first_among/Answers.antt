use Rattle.std.proofs.Common.{List, [], ◌∷◌, Option, None, subst, ◌∙◌, arith}
use Rattle.std.proofs.lemmas.List.{take_all}
use Rattle.ped_refs.specs.References.{Reference, references, pairs}
use Rattle.ped_edges.specs.declared.edges.Edge.{Edge as CodeEdge}
use Rattle.ped_splits.specs.CodeFusing.{IsFirstBack}
use Rattle.ped_splits.proofs.BackAmong.{still_none, first_here, pairs_held}
use Rattle.ped_splits.proofs.returning.first_among.Goals as goal

pub first_at-requires : goal.first_at-requires
first_at-requires c =
    let u = c.requires.held.0 in
    let is = c.requires.held.1 in
    let count = pairs_held u (record { frame = c.prepared.inside.frame; views = c.prepared.inside.views.items }) (c.prepared.view_is ∙ is) in
    let less = c.loop-n-test.true in
    let all = c.pair_count-n-end.ensures in
    record { held = (u, is, omega (arith, count, less, all)); order = c.requires.order; second = c.requires.second; behind = c.requires.behind }

pub loop-n-preserved : goal.loop-n-preserved
loop-n-preserved c = λ u is.
    let count = pairs_held u (record { frame = c.prepared.inside.frame; views = c.prepared.inside.views.items }) (c.prepared.view_is ∙ is) in
    let less = c.loop-n-test.true in
    let all = c.pair_count-n-end.ensures in
    still_none u c.args.bodies.now (pairs (references u)) c.loop-n.n (omega (arith, count, less, all)) (c.loop-n.invariant u is)
    (λ p at. subst (λ (r : Option CodeEdge). IsFirstBack u c.args.bodies.now (p ∷ []) r) c.in-None.is (c.in_ok-edge.ensures u p is at))

pub returns-in-Some : goal.returns-in-Some
returns-in-Some c = λ u is.
    let count = pairs_held u (record { frame = c.prepared.inside.frame; views = c.prepared.inside.views.items }) (c.prepared.view_is ∙ is) in
    let less = c.loop-n-test.true in
    let all = c.pair_count-n-end.ensures in
    first_here u c.args.bodies.now (pairs (references u)) c.loop-n.n (omega (arith, count, less, all)) (c.loop-n.invariant u is) c.in-Some.edge
    (λ p at. subst (λ (r : Option CodeEdge). IsFirstBack u c.args.bodies.now (p ∷ []) r) c.in-Some.is (c.in_ok-edge.ensures u p is at))

pub returns : goal.returns
returns c = λ u is.
    let count = pairs_held u (record { frame = c.prepared.inside.frame; views = c.prepared.inside.views.items }) (c.prepared.view_is ∙ is) in
    let past = c.loop-n-test.false in
    let all = c.pair_count-n-end.ensures in
    subst (λ (ps : List (Reference × Reference)). IsFirstBack u c.args.bodies.now ps None) (take_all c.loop-n.n (pairs (references u)) (omega (arith, count, past, all))) (c.loop-n.invariant u is)
