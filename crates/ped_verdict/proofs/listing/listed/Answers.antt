use Rattle.std.proofs.Common.{◌≡◌, ◌≤◌, ◌<◌, ◌+◌, ◌++◌, ◌∷◌, ◌∙◌, [], ap, subst, sym, length, arith}
use Rattle.std.proofs.lemmas.Grind.{common_steps}
use Rattle.ped_views.specs.Views.{View}
use Rattle.ped_views.specs.Vectors.{IsPossible, all_vectors}
use Rattle.ped_verdict.specs.Marked.{place_of}
use Rattle.ped_verdict.proofs.Ordered.{some_place}
use Rattle.ped_verdict.proofs.Chosen.{AreAhead}
use Rattle.ped_verdict.proofs.Possible.{one_more, none_there, all_there}
use Rattle.ped_verdict.proofs.listing.listed.Goals as goal
use Rattle.ped_verdict.proofs.listing.listed.Goals.{then-get+in_ok-push, else-get}

pub vector_at-vector-requires-clause-place : goal.vector_at-vector-requires-clause-place
vector_at-vector-requires-clause-place c = some_place c.len-loops.result

pub loop-place-preserved : goal.loop-place-preserved
loop-place-preserved c =
    let v = c.args.view.now in
    let row = c.args.possible.now in
    let k = c.loop-place.place in
    let found = c.loop-place.vectors.items in
    let loops = ap (λ (w : View). length w.loops) c.view.view_is in
    let below : k < length row = (let t = c.loop-place-test.true in let e = c.width-place-end.ensures in omega arith) in
    elim c.if-get.branch [
      | then-get+in_ok-push w ↦
          let e : c.if-get.vectors.items ≡ found ++ w.vector_from-vector.result ∷ [] = cc (w.in_ok-push.ensures.items) in
          let s : c.if-get.vector ≡ w.vector_from-vector.result = cc in
          let t : c.if-get.at ≡ k = cc in
          let l : length w.vector_from-vector.result ≡ length v.loops = (let n = w.vector_from-vector.ensures.length in let m = c.len-loops.ensures in grind (arith, common_steps)) in
          let p = w.vector_from-vector.ensures.place in
          record {
            found = subst (λ ys. AreAhead (IsPossible v) (all_vectors (length v.loops)) (k + 1) ys) (sym e) (one_more v row c.requires k found below w.vector_from-vector.result l p (c.get.ensures.0 w.if-get.true) c.loop-place.invariant.found);
            long = ap length s ∙ l;
            is = ap place_of s ∙ p ∙ sym t;
            order = omega arith;
          }
      | else-get w ↦
          let e : c.if-get.vectors.items ≡ found = cc in
          let s : c.if-get.vector ≡ c.loop-place.vector = cc in
          let t : c.if-get.at ≡ c.loop-place.at = cc in
          let n = w.if-get.false in
          let i = c.loop-place.invariant in
          let order = i.order in
          record {
            found = subst (λ ys. AreAhead (IsPossible v) (all_vectors (length v.loops)) (k + 1) ys) (sym e) (none_there v row c.requires k found below (λ h. let t = c.get.ensures.1 h in cc) i.found);
            long = ap length s ∙ i.long;
            is = ap place_of s ∙ i.is ∙ sym t;
            order = omega arith;
          }
    ]

pub returns : goal.returns
returns c =
    let past : length c.args.possible.now ≤ c.loop-place.place = (let t = c.loop-place-test.false in let e = c.width-place-end.ensures in omega arith) in
    all_there c.args.view.now c.args.possible.now c.requires c.loop-place.place c.loop-place.vectors.items past c.loop-place.invariant.found
