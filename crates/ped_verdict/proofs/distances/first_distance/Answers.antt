use Rattle.std.proofs.Common.{rules, ◌≡◌, ◌+◌, ◌∷◌, ◌∙◌, ap, sym, drop, FitsSigned, w64}
use Rattle.std.proofs.lemmas.Int.{to_z-of_z}
use Rattle.std.proofs.lemmas.List.{drop_more}
use Rattle.ped_views.specs.Vectors.{first_distance}
use Rattle.ped_verdict.proofs.Deciding.{strong_first}
use Rattle.ped_verdict.proofs.distances.first_distance.Goals as goal

pub returns-in-Some : goal.returns-in-Some
returns-in-Some c =
    let p = c.position-item.result in
    let i = c.loop-position.position-index in
    let all = c.args.positions.now in
    let opened : drop i all ≡ p ∷ drop (i + 1) all = drop_more all i p c.loop-position-test.true ∙ ap (λ q. q ∷ drop (i + 1) all) (sym c.position-item.is) in
    let f : FitsSigned w64 c.args.step = c.ranges.step in
    let g : FitsSigned w64 c.in-Some.a = search rules in
    let ahead = simp to_z-of_z at c.loop-position.invariant in
    let by = simp to_z-of_z at c.distance_by.ensures in
    by ∙ sym (strong_first c.in-Some.a c.args.place c.args.step p (drop (i + 1) all) c.in-Some.ensures) ∙ ap (first_distance c.args.place c.args.step) (sym opened) ∙ ahead
