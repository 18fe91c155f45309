use Rattle.std.proofs.Common.{◌≤◌, length, subst, refl, arith}
use Rattle.ped_miv.specs.Parts.{MaySum}
use Rattle.ped_verdict.proofs.Walked.{some_without}
use Rattle.ped_verdict.proofs.sights.excludes_some.Goals as goal

pub returns-in-None : goal.returns-in-None
returns-in-None c =
    let none = subst (MaySum c.args.view.now c.args.pair.now c.args.front.now) c.in-None.is c.sum_under.ensures in
    let deep = c.requires.sight.deep in
    let within : length c.args.front.now ≤ length c.args.view.now.loops = (let f = c.requires.front in omega (arith, f, deep)) in
    (λ t. some_without c.args.view.now c.args.pair.now c.args.front.now within none, λ x. refl)
