use Rattle.std.proofs.Common.{refl, sym, arith}
use Rattle.std.proofs.lemmas.Bool.{false≢true}
use Rattle.ped_verdict.specs.Sights.{Shuts}
use Rattle.ped_verdict.proofs.Asked.{none_further, not_held_by}
use Rattle.ped_verdict.proofs.walks.any_shuts.Goals as goal

pub returns-then-shuts : goal.returns-then-shuts
returns-then-shuts c = (λ t. (c.loop-sight.sight-index, c.sight-item.result, c.loop-sight-test.true, sym c.sight-item.is, c.shuts.ensures.0 c.if-shuts.true), λ x. refl)

pub loop-sight-preserved : goal.loop-sight-preserved
loop-sight-preserved c = none_further (Shuts c.args.view.now c.args.front.now) c.args.sights.now c.loop-sight.sight-index c.sight-item.result c.loop-sight-test.true c.sight-item.is c.loop-sight.invariant (not_held_by _ _ c.shuts.ensures c.if-shuts.false)

pub returns : goal.returns
returns c = (λ t. absurd (false≢true t), λ a. let past = c.loop-sight-test.false in let below = a.2 in absurd (c.loop-sight.invariant a.0 a.1 (omega arith) a.3 a.4))
