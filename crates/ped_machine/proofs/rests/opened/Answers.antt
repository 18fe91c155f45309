use Rattle.std.proofs.Common.{None}
use Rattle.ped_machine.specs.declared.opens.Open.{Open}
use Rattle.ped_machine.proofs.OpenSteps.{opened_is}
use Rattle.ped_machine.proofs.rests.opened.Goals as goal

pub returns-clause-left : goal.returns-clause-left
returns-clause-left g c scope rest =
    let o : Open _ = record { d = c.args.d; plan = c.args.plan; tasks = c.new-tasks.result; marks = c.new-marks.result; latest = None } in
    opened_is g.C.Work.left g.C.Work.base g.C.Work.sound scope o rest c.requires.some c.new-marks.ensures.waits
