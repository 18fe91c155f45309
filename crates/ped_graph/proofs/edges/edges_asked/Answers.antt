use Rattle.std.proofs.Common.{◌+◌, ◌∙◌, List, ◌∷◌, map, drop, ap, subst, sym, add-one, arith}
use Rattle.ped_edges.specs.Edges.{Edge}
use Rattle.ped_edges.specs.CodeEdges.{edge_of}
use Rattle.ped_graph.specs.HeldSelections.{asks}
use Rattle.ped_graph.specs.Held.{pair_by, pairs_by}
use Rattle.ped_graph.specs.CodeFacts.{framed_of, views_in}
use Rattle.ped_graph.proofs.Slices.{item_there, mapped_at, length_mapped}
use Rattle.ped_graph.proofs.HeldEdges.{next_pair, few_pairs}
use Rattle.ped_graph.proofs.EdgesAsked.{AreAheadAsked, one_found_asked, all_found_asked}
use Rattle.ped_graph.proofs.edges.edges_asked.Goals as goal

pub loop-place-preserved : goal.loop-place-preserved
loop-place-preserved g c =
    let fs = map framed_of c.args.pairs.now in
    let vs = views_in c.args.verdicts.now in
    let ps = pairs_by fs vs in
    let i = c.loop-place.place in
    let x = c.index-pairs-place.result in
    let more = c.in_ok-push_asked.ensures.edges in
    let at = mapped_at framed_of c.args.pairs.now i x (item_there c.args.pairs.now i x c.index-pairs-place.is c.loop-place-test.true) in
    let p = pair_by (framed_of x) c.verdict_at-verdict.result.now in
    let next = next_pair fs vs i (framed_of x) c.verdict_at-verdict.result.now at c.verdict_at-verdict.ensures ∙ ap (λ (n : _). p ∷ drop n ps) (sym (add-one i)) in
    let ahead = one_found_asked (asks c.args.question) ps i (map edge_of c.loop-place.edges.items) more.0 p next more.2 c.loop-place.invariant.0 in
    (subst (λ (es : List Edge). AreAheadAsked (asks c.args.question) ps (i + 1) es) (sym more.1) ahead, c.in_ok-push_asked.ensures.short c.loop-place.invariant.1)

pub returns-clause-edges : goal.returns-clause-edges
returns-clause-edges g c =
    let fs = map framed_of c.args.pairs.now in
    let vs = views_in c.args.verdicts.now in
    let few = few_pairs fs vs in
    let mapped = length_mapped framed_of c.args.pairs.now in
    let past = c.loop-place-test.false in
    all_found_asked (asks c.args.question) (pairs_by fs vs) c.loop-place.place (map edge_of c.loop-place.edges.items) (omega (arith, few, mapped, past)) c.loop-place.invariant.0
