use Rattle.std.proofs.Common.{◌∙◌, [], ◌∷◌, ◌++◌, map, length, drop, length-append, refl, ap, sym, add-one, arith}
use Rattle.std.proofs.lemmas.Result.{IfOk-weaker}
use Rattle.ped_graph.specs.Held.{pair_by, pairs_by}
use Rattle.ped_graph.specs.CodeFacts.{framed_of, views_in}
use Rattle.ped_graph.proofs.Slices.{item_there, mapped_at, length_mapped}
use Rattle.ped_graph.proofs.HeldEdges.{next_pair, few_pairs, none_found, one_found, all_found}
use Rattle.ped_graph.proofs.PrintedRows.{rows_more, few_counted}
use Rattle.ped_graph.proofs.printing.pane_of_pairs.Goals as goal

pub loop-place-init : goal.loop-place-init
loop-place-init g c = ([], none_found (pairs_by (map framed_of c.args.pairs.now) (views_in c.args.verdicts.now)), c.new-rows.ensures, refl)

pub counted-count-requires : goal.counted-count-requires
counted-count-requires g c =
    let h = c.in_ok-added.ensures in
    let bytes = ap length c.as_slice.ensures in
    let few = few_counted c.loop-place.count c.loop-place.invariant.0 h.0 c.loop-place.rows c.push_pair.new.rows c.loop-place.invariant.3 c.loop-place.invariant.2 h.2 in
    let many = h.3 in
    omega (arith, bytes, few, many)

pub loop-place-preserved : goal.loop-place-preserved
loop-place-preserved g c =
    let fs = map framed_of c.args.pairs.now in
    let vs = views_in c.args.verdicts.now in
    let ps = pairs_by fs vs in
    let i = c.loop-place.place in
    let x = c.index-pairs-place.result in
    let h = c.in_ok-added.ensures in
    let at = mapped_at framed_of c.args.pairs.now i x (item_there c.args.pairs.now i x c.index-pairs-place.is c.loop-place-test.true) in
    let p = pair_by (framed_of x) c.verdict_at.result.now in
    let next = next_pair fs vs i (framed_of x) c.verdict_at.result.now at c.verdict_at.ensures ∙ ap (λ (n : _). p ∷ drop n ps) (sym (add-one i)) in
    let found = c.loop-place.invariant.0 in
    let both = length-append found h.0 in
    let before = c.loop-place.invariant.3 in
    let many = h.3 in
    let count = c.counted-count.ensures in (
      found ++ h.0,
      one_found ps i found h.0 p next h.1 c.loop-place.invariant.1,
      rows_more found h.0 c.loop-place.rows c.push_pair.new.rows c.loop-place.invariant.2 h.2,
      omega (arith, both, before, many, count),
    )

pub returns : goal.returns
returns g c =
    let fs = map framed_of c.args.pairs.now in
    let vs = views_in c.args.verdicts.now in
    let few = few_pairs fs vs in
    let mapped = length_mapped framed_of c.args.pairs.now in
    let past = c.loop-place-test.false in
    let found = c.loop-place.invariant.0 in
    let these = all_found (pairs_by fs vs) c.loop-place.place found (omega (arith, few, mapped, past)) c.loop-place.invariant.1 in
    IfOk-weaker c.pane_of_rows.result _ _ (λ pane is. (found, these, is found c.loop-place.invariant.3 c.loop-place.invariant.2)) c.pane_of_rows.ensures
