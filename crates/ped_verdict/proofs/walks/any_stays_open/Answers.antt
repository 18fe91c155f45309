use Rattle.std.proofs.Common.{refl, sym, arith}
use Rattle.std.proofs.lemmas.Bool.{false≢true}
use Rattle.ped_verdict.specs.Sights.{StaysOpen}
use Rattle.ped_verdict.proofs.Asked.{none_further, not_held_by}
use Rattle.ped_verdict.proofs.walks.any_stays_open.Goals as goal

pub returns-then-stays_open : goal.returns-then-stays_open
returns-then-stays_open c = (λ t. (c.loop-sight.sight-index, c.sight-item.result, c.loop-sight-test.true, sym c.sight-item.is, c.stays_open.ensures.0 c.if-stays_open.true), λ x. refl)

pub loop-sight-preserved : goal.loop-sight-preserved
loop-sight-preserved c = none_further (StaysOpen c.args.view.now c.args.front.now) c.args.sights.now c.loop-sight.sight-index c.sight-item.result c.loop-sight-test.true c.sight-item.is c.loop-sight.invariant (not_held_by _ _ c.stays_open.ensures c.if-stays_open.false)

pub returns : goal.returns
returns c = (λ t. absurd (false≢true t), λ a. let past = c.loop-sight-test.false in let below = a.2 in absurd (c.loop-sight.invariant a.0 a.1 (omega arith) a.3 a.4))
