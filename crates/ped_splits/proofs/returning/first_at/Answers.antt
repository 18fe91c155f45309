use Rattle.std.proofs.Common.{map, sym, ◌∙◌, arith}
use Rattle.ped_refs.specs.References.{references, pairs}
use Rattle.ped_edges.specs.CodeEdges.{edge_of}
use Rattle.ped_splits.proofs.BackAmong.{there, pairs_held, views_held, key_back, not_back, of_pair, edges_inside}
use Rattle.ped_splits.proofs.returning.first_at.Goals as goal

pub key-key-requires : goal.key-key-requires
key-key-requires c =
    let count = pairs_held c.requires.held.0 (record { frame = c.prepared.inside.frame; views = c.prepared.inside.views.items }) (c.prepared.view_is ∙ c.requires.held.1) in
    let within = c.requires.held.2 in
    omega (arith, count, within)

pub edges_of-requires : goal.edges_of-requires
edges_of-requires c =
    let u = c.requires.held.0 in
    let is = c.requires.held.1 in
    let count = pairs_held u c.args.prepared.now is in
    let views = views_held u c.args.prepared.now is in
    let within = c.requires.held.2 in
    record { pairs = omega (arith, count, within); views = omega (arith, views, within) }

pub first_of-requires : goal.first_of-requires
first_of-requires c =
    let u = c.requires.held.0 in
    let is = c.requires.held.1 in
    let x = there (pairs (references u)) c.args.n c.requires.held.2 in
    let back = sym (key_back u (record { frame = c.prepared.inside.frame; views = c.prepared.inside.views.items }) (c.prepared.view_is ∙ is) c.args.n x.0 x.1 c.args.bodies.now c.key-key.result c.key-key.ensures) ∙ sym c.goes_back.ensures ∙ c.if-not-goes_back.false in
    record {
      short = c.in_ok-edges.ensures.short;
      inside = edges_inside u c.args.bodies.now x.0 back c.in_ok-edges.edges.items (c.in_ok-edges.ensures.edges u x.0 is x.1);
      second = c.requires.second;
      behind = c.requires.behind;
    }

pub returns-then-not-goes_back : goal.returns-then-not-goes_back
returns-then-not-goes_back c = λ u p is at.
    not_back u c.args.bodies.now p (sym (key_back u (record { frame = c.prepared.inside.frame; views = c.prepared.inside.views.items }) (c.prepared.view_is ∙ is) c.args.n p at c.args.bodies.now c.key-key.result c.key-key.ensures) ∙ sym c.goes_back.ensures ∙ c.if-not-goes_back.true)

pub returns : goal.returns
returns c = λ u p is at.
    let back = sym (key_back u (record { frame = c.prepared.inside.frame; views = c.prepared.inside.views.items }) (c.prepared.view_is ∙ is) c.args.n p at c.args.bodies.now c.key-key.result c.key-key.ensures) ∙ sym c.goes_back.ensures ∙ c.if-not-goes_back.false in
    of_pair u c.args.bodies.now p back (map edge_of c.in_ok-edges.edges.items) (c.in_ok-edges.ensures.edges u p is at) c.first_of.result c.first_of.ensures
