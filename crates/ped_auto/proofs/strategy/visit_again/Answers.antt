use Rattle.std.proofs.Common.{◌-◌, ap}
use Rattle.std.specs.Option.{is_none}
use Rattle.ped_script.specs.declared.items.Command.TheVariants.{Parallel}
use Rattle.ped_auto.specs.Strategy.{VisitsAgain}
use Rattle.ped_auto.specs.CodeStages.{stage, CutsOff}
use Rattle.ped_auto.proofs.Leading.{leads_again}
use Rattle.ped_auto.proofs.Attempting.{cut_again, same_where_left}
use Rattle.ped_auto.proofs.Outcomes.{when_err, cut_left}
use Rattle.ped_auto.proofs.strategy.visit_again.Goals as goal

pub returns-in_err-refused-clause-cut : goal.returns-in_err-refused-clause-cut
returns-in_err-refused-clause-cut g c =
    let e = g.E.Editor.editing in
    when_err _ (CutsOff e (VisitsAgain e c.args.number) c.args.editor.now c.args.accepted.now c.args.steps.now c.try_command.new.editor c.try_command.new.steps)
    (λ before low. cut_again e g.met.E.Editor.laws c.args.number (stage c.args.editor.now c.args.accepted.now (c.args.steps.now - before)) c.try_command.new.editor (c.try_command.new.steps - before)
    (c.in_err-refused.ensures.cut before low))

pub returns-in_err-push-clause-cut : goal.returns-in_err-push-clause-cut
returns-in_err-push-clause-cut g c =
    let e = g.E.Editor.editing in
    when_err _ (CutsOff e (VisitsAgain e c.args.number) c.args.editor.now c.args.accepted.now c.args.steps.now c.try_command.new.editor c.try_command.new.steps)
    (λ before low.
    let p = stage c.args.editor.now c.args.accepted.now (c.args.steps.now - before) in
    let q = stage c.try_command.new.editor c.try_command.new.accepted (c.try_command.new.steps - before) in
    cut_left e (VisitsAgain e c.args.number) p q (λ r h. leads_again e g.met.E.Editor.laws c.args.number p r h)
    (same_where_left e (Parallel c.args.number) c.in_ok-refused.refused p q (c.in_ok-refused.ensures.tried before low) (ap is_none c.in-Some.is)))
