use Rattle.std.proofs.Common.{◌≡◌, ◌++◌, ◌∷◌, [], refl, arith}
use Rattle.ped_views.specs.declared.directions.Direction.TheVariants.{Before, Same, After}
use Rattle.ped_verdict.proofs.Ordered.{last_split, stepped, carried}
use Rattle.ped_verdict.proofs.places.+following.Goals as goal

pub returns-in-Before-clause-next : goal.returns-in-Before-clause-next
returns-in-Before-clause-next t c =
    let n = c.len.ensures in
    let some = c.if-len-eq0.false in
    let split = last_split c.args.vector (omega arith) in
    let f = c.without_last-front.ensures in
    let l = c.last.ensures in
    let d = c.in-Before.is in
    let is : c.args.vector ≡ c.without_last-front.result ++ Before ∷ [] = cc in
    λ below. stepped c.args.vector c.without_last-front.result c.with.result Before Same is c.with.ensures refl

pub returns-in-Same-clause-next : goal.returns-in-Same-clause-next
returns-in-Same-clause-next t c =
    let n = c.len.ensures in
    let some = c.if-len-eq0.false in
    let split = last_split c.args.vector (omega arith) in
    let f = c.without_last-front.ensures in
    let l = c.last.ensures in
    let d = c.in-Same.is in
    let is : c.args.vector ≡ c.without_last-front.result ++ Same ∷ [] = cc in
    λ below. stepped c.args.vector c.without_last-front.result c.with-in-Same.result Same After is c.with-in-Same.ensures refl

pub returns-in-After-clause-next : goal.returns-in-After-clause-next
returns-in-After-clause-next t c =
    let n = c.len.ensures in
    let some = c.if-len-eq0.false in
    let split = last_split c.args.vector (omega arith) in
    let f = c.without_last-front.ensures in
    let l = c.last.ensures in
    let d = c.in-After.is in
    let is : c.args.vector ≡ c.without_last-front.result ++ After ∷ [] = cc in
    carried c.args.vector c.without_last-front.result c.following.result c.with-in-After.result is c.with-in-After.ensures c.following.ensures.next
