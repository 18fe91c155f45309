use Rattle.std.proofs.Common.{◌-◌, Option, subst}
use Rattle.ped_rules.specs.ped_steps.specs.declared.causes.Refused.{Refused}
use Rattle.ped_auto.specs.Editing.{Answers}
use Rattle.ped_auto.specs.Strategy.{Tries}
use Rattle.ped_auto.specs.CodeStages.{AnyOutcome, CutsOff}
use Rattle.ped_auto.proofs.Cutting.{cut_before, cut_behind}
use Rattle.ped_auto.proofs.Outcomes.{when_err}
use Rattle.ped_auto.proofs.strategy.try_command.Goals as goal

pub returns-in_err-why-clause-cut : goal.returns-in_err-why-clause-cut
returns-in_err-why-clause-cut g c =
    let e = g.E.Editor.editing in
    when_err c.from_residual.result (CutsOff e (AnyOutcome (Tries e c.args.command)) c.args.editor.now c.args.accepted.now c.args.steps.now c.step.new.self c.step.new.steps)
    (λ before low. cut_before e g.met.E.Editor.laws c.args.command c.requires.strategy c.args.editor.now c.step.new.self c.args.accepted.now c.args.steps.now c.step.new.steps before low
    c.step.ensures.least c.in_err-why.ensures.kept c.step.ensures.most c.step.ensures.none)

pub returns-in_err-push-in-None-clause-cut : goal.returns-in_err-push-in-None-clause-cut
returns-in_err-push-in-None-clause-cut g c =
    let e = g.E.Editor.editing in
    when_err c.from_residual-in_err-push-in-None.result (CutsOff e (AnyOutcome (Tries e c.args.command)) c.args.editor.now c.args.accepted.now c.args.steps.now c.step.new.self c.step.new.steps)
    (λ before low. cut_behind e g.met.E.Editor.laws c.args.command c.requires.strategy c.args.editor.now c.step.new.self c.args.accepted.now c.args.steps.now c.step.new.steps before low
    c.step.ensures.least
    (subst (λ (o : Option Refused). Answers e c.args.editor.now c.args.command o c.step.new.self (c.step.new.steps - c.args.steps.now)) c.in-None.is c.in_ok-why.ensures.answers))
