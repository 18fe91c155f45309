use Rattle.std.proofs.Common.{◌≡◌, ◌+◌, ◌≤◌, [], arith}
use Rattle.ped_session.specs.declared.replies.Refusal.TheVariants.{Step}
use Rattle.ped_session.specs.declared.replies.Reply.TheVariants.{Changed, Refused}
use Rattle.ped_session.proofs.AutoSteps.{is_step}
use Rattle.ped_session.proofs.AutoTries.{isnt_auto, step_reply, answers_step}
use Rattle.ped_session.proofs.automatic.SessionEditor.step.Goals as goal

pub apply-requires : goal.apply-requires
apply-requires g c = isnt_auto c.args.command.now c.args.self.now c.requires

pub refused_by-requires : goal.refused_by-requires
refused_by-requires g c = step_reply c.args.command.now c.args.self.now c.requires c.apply.new.self c.in_ok-reply.reply c.in_ok-reply.ensures.answers

pub returns-clause-answers : goal.returns-clause-answers
returns-clause-answers g c =
    answers_step c.args.command.now c.args.self.now c.apply.new.self c.in_ok-reply.reply c.refused_by.result c.args.steps.now c.apply.new.steps c.requires
    c.in_ok-reply.ensures.answers c.in_ok-reply.ensures.ticks c.refused_by.ensures

pub returns-in_err-reply-clause-most : goal.returns-in_err-reply-clause-most
returns-in_err-reply-clause-most g c = λ next tests h.
    let few : c.apply.new.steps ≤ c.args.steps.now + next.tested = c.in_err-reply.ensures.most Changed next (is_step c.args.command.now [] c.args.self.now next Changed h.0) in
    let same : tests ≡ next.tested = h.1 in
    omega (arith, few, same)

pub returns-in_err-reply-clause-none : goal.returns-in_err-reply-clause-none
returns-in_err-reply-clause-none g c = λ why h.
    let few : c.apply.new.steps ≤ c.args.steps.now + 0 = c.in_err-reply.ensures.most (Refused (Step why)) c.args.self.now (is_step c.args.command.now [] c.args.self.now c.args.self.now (Refused (Step why)) h) in
    let least : c.args.steps.now ≤ c.apply.new.steps = c.in_err-reply.ensures.least in
    omega (arith, few, least)

pub returns-clause-most : goal.returns-clause-most
returns-clause-most g c = λ next tests h.
    let few : c.apply.new.steps ≤ c.args.steps.now + next.tested = c.in_ok-reply.ensures.most Changed next (is_step c.args.command.now [] c.args.self.now next Changed h.0) in
    let same : tests ≡ next.tested = h.1 in
    omega (arith, few, same)

pub returns-clause-none : goal.returns-clause-none
returns-clause-none g c = λ why h.
    let few : c.apply.new.steps ≤ c.args.steps.now + 0 = c.in_ok-reply.ensures.most (Refused (Step why)) c.args.self.now (is_step c.args.command.now [] c.args.self.now c.args.self.now (Refused (Step why)) h) in
    let least : c.args.steps.now ≤ c.apply.new.steps = c.in_ok-reply.ensures.least in
    omega (arith, few, least)
