use Rattle.std.proofs.Common.{◌∙◌, ap, List, ◌++◌, append_assoc, ℕ, Bool, ◌||◌, refl}
use Rattle.ped_session.specs.Scripts.{said_by}
use Rattle.ped_session.proofs.Answering.{same_answered}
use Rattle.ped_session.proofs.answers.answer_reply.Goals as goal

pub returns-clause-answers : goal.returns-clause-answers
returns-clause-answers g c = record {
  said = said_by c.args.line c.in_ok-reply.reply c.in_ok-rows.rows _;
  is = (c.in_ok-reply.reply, c.in_ok-reply.ensures.answers, c.in_ok-rows.rows, c.in_ok-rows.ensures, refl);
  adds = same_answered
      (c.in_ok-extend_from_slice-2.ensures.ok
      ∙ ap (λ (t : List ℕ). t ++ c.as_slice-2.result.now) c.in_ok-extend_from_slice.ensures.ok
      ∙ append_assoc c.args.answered.now.bytes c.as_slice.result.now c.as_slice-2.result.now
      ∙ (λ i. c.args.answered.now.bytes ++ ((c.as_slice.ensures ∙ c.in_ok-text.ensures) i ++ c.as_slice-2.ensures i)))
      (ap (λ (r : Bool). c.args.answered.now.refused || r) c.is_refused.ensures);
  ticks = c.in_ok-reply.ensures.ticks;
}
