use Rattle.std.proofs.Common.{◌∙◌, ℤ, List, ◌∷◌, [], ◌++◌, map, Option, sym, ap, arith}
use Rattle.std.specs.List.{range_with_len}
use Rattle.std.proofs.lemmas.List.FromFn.{map-range_with_len_more}
use Rattle.ped_views.specs.Vectors.{distance}
use Rattle.ped_graph.proofs.edges.distances_of.Goals as goal

pub loop-place-preserved : goal.loop-place-preserved
loop-place-preserved c =
    let f = distance c.args.view.now in
    let k = c.loop-place.place in
    let many = c.push.ensures.len in
    let before = c.loop-place.invariant.1 in (
      c.push.ensures.items
          ∙ ap (λ (ds : List (Option ℤ)). ds ++ c.distance.result ∷ []) c.loop-place.invariant.0
          ∙ ap (λ (d : Option ℤ). map f (range_with_len 0 k) ++ d ∷ []) c.distance.ensures
          ∙ sym (map-range_with_len_more f 0 k k (omega arith)),
      omega (arith, many, before),
    )
