use Rattle.std.proofs.Common.{inl, inr}
use Rattle.std.proofs.lemmas.Result.{on_ok_weaker}
use Rattle.ped_session.proofs.Answering.{adds_further}
use Rattle.ped_session.proofs.OneAnswer.{not_auto}
use Rattle.ped_session.proofs.answers.answer_command.Goals as goal

pub returns-in-Auto-clause-answers : goal.returns-in-Auto-clause-answers
returns-in-Auto-clause-answers g c =
    on_ok_weaker c.answer_auto.result (λ h. adds_further _ _ _ _ _ _ (λ said is. inr (c.in-Auto.is, is)) h) c.answer_auto.ensures.answers

pub returns-in-Auto-clause-most : goal.returns-in-Auto-clause-most
returns-in-Auto-clause-most g c said next (inl h) = absurd (not_auto c.args.command.now c.args.input.now c.args.session.now next h.0 c.in-Auto.is h.1)
returns-in-Auto-clause-most g c said next (inr (is, h)) = c.answer_auto.ensures.most said next h

pub returns-in_default-clause-answers : goal.returns-in_default-clause-answers
returns-in_default-clause-answers g c =
    on_ok_weaker c.answer_reply.result (λ h. adds_further _ _ _ _ _ _ (λ said is. inl is) h) c.answer_reply.ensures.answers

pub returns-in_default-clause-most : goal.returns-in_default-clause-most
returns-in_default-clause-most g c said next (inl h) = c.answer_reply.ensures.most said next h
returns-in_default-clause-most g c said next (inr (is, h)) = absurd (c.in_default.not-Auto is)
