use Rattle.std.proofs.Common.{arith, rules, ◌≡◌, ◌≤◌, ◌<◌, ◌∙◌, ◌+◌, ◌*◌, ◌++◌, ◌∷◌, [], ap, sym, take, get_or, length}
use Rattle.std.proofs.lemmas.Grind.{common_steps}
use Rattle.std.proofs.lemmas.List.{take_more, take_all}
use Rattle.ped_views.specs.declared.directions.Direction.TheVariants.{Before}
use Rattle.ped_verdict.specs.Marked.{place_of, digit}
use Rattle.ped_verdict.proofs.Ordered.{place_below, place_small, place-push}
use Rattle.ped_verdict.proofs.places.place_of.Goals as goal

pub overflow_mul-place : goal.overflow_mul-place
overflow_mul-place c =
    let front = take c.loop-direction.direction-index c.args.vector.now in
    let l : length front ≤ 6 = grind (arith, common_steps) in
    let b = place_small front l in
    let e = c.loop-direction.invariant in
    omega arith

pub overflow_add-place : goal.overflow_add-place
overflow_add-place c =
    let front = take c.loop-direction.direction-index c.args.vector.now in
    let l : length front ≤ 6 = grind (arith, common_steps) in
    let b = place_small front l in
    let e = c.loop-direction.invariant in
    omega arith

pub loop-direction-preserved : goal.loop-direction-preserved
loop-direction-preserved c =
    let k = c.loop-direction.direction-index in
    let v = c.args.vector.now in
    let t : k < length v = c.loop-direction-test.true in
    let m : take (k + 1) v ≡ take k v ++ get_or v k Before ∷ [] = take_more v k Before t in
    let p = place-push (take k v) (get_or v k Before) in
    let i : c.loop-direction.place ≡ place_of (take k v) = c.loop-direction.invariant in
    let d : c.digit.result ≡ digit (get_or v k Before) = c.digit.ensures.value in
    let q : 3 * c.loop-direction.place + c.digit.result ≡ 3 * place_of (take k v) + digit (get_or v k Before) = omega arith in
    q ∙ sym p ∙ ap place_of (sym m)

pub returns-clause-small : goal.returns-clause-small
returns-clause-small c =
    let v = c.args.vector.now in
    let b = place_below v in
    let e : take c.loop-direction.direction-index v ≡ v = take_all c.loop-direction.direction-index v (search rules) in
    let f = ap place_of e in
    let i = c.loop-direction.invariant in
    omega arith
