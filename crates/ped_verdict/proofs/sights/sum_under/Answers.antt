use Rattle.std.proofs.Common.{◌≡◌, ℕ, Option, [], length, take, sym, subst, refl, arith, ap}
use Rattle.std.proofs.lemmas.List.{length-take-le}
use Rattle.ped_views.specs.declared.intervals.Interval.{Interval}
use Rattle.ped_miv.specs.Parts.{ArePartsAt, MaySum}
use Rattle.ped_verdict.proofs.Walked.{none_longer, sum_none}
use Rattle.ped_verdict.proofs.sights.sum_under.Goals as goal

pub returns-in_err-sum : goal.returns-in_err-sum
returns-in_err-sum c =
    subst (λ (o : Option Interval). MaySum c.args.view.now c.args.pair.now c.args.front.now o) (sym c.from_residual.ensures)
    (none_longer c.args.view.now c.args.pair.now [] c.args.front.now c.args.front.now refl (subst (MaySum c.args.view.now c.args.pair.now []) c.in_err-sum.was c.requires.sight.start))

pub sum_with-requires-clause-parts : goal.sum_with-requires-clause-parts
sum_with-requires-clause-parts c =
    let ds = c.directions-directions.result.now in
    let below = c.loop-place-test.true in
    let as_long = ap length c.directions-directions.ensures.value in
    let deep = c.requires.sight.deep in
    let within = c.requires.front in
    let l : length (take c.loop-place.place ds) ≡ c.loop-place.place = length-take-le c.loop-place.place ds (omega arith) in
    subst (λ (k : ℕ). ArePartsAt c.args.view.now.loops c.args.pair.now.source.common c.args.pair.now.sink.common k c.index-parts.result.now) (sym l)
    (c.requires.sight.parts.each c.loop-place.place c.index-parts.result.now (omega arith) c.index-parts.ensures)

pub returns-in_err-sum-2 : goal.returns-in_err-sum-2
returns-in_err-sum-2 c =
    subst (λ (o : Option Interval). MaySum c.args.view.now c.args.pair.now c.args.front.now o) (sym c.from_residual-in_err-sum-2.ensures)
    (sum_none c.args.view.now c.args.pair.now c.directions-directions.result.now c.args.front.now c.loop-place.place _ _ c.loop-place-test.true refl _ refl c.directions-directions.ensures.value c.in_err-sum-2.ensures)
