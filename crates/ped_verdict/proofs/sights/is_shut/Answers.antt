use Rattle.std.proofs.Common.{subst}
use Rattle.ped_miv.specs.Parts.{MaySum}
use Rattle.ped_verdict.proofs.Walked.{beyond_tells, beyond_without}
use Rattle.ped_verdict.proofs.sights.is_shut.Goals as goal

pub returns-in-None : goal.returns-in-None
returns-in-None c =
    let none = subst (MaySum c.args.view.now c.args.pair.now c.args.front.now) c.in-None.is c.sum_under.ensures in
    beyond_tells c.args.view.now c.args.pair.now c.args.sight.now.stage c.args.front.now (beyond_without c.args.view.now c.args.pair.now c.args.front.now none)
