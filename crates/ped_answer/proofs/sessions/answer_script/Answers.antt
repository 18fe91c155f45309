use Rattle.std.proofs.Common.{ℕ, ◌+◌, ◌≡◌, ◌∙◌, ap, sym, subst}
use Rattle.ped_answer.specs.declared.answering.Status.{Status}
use Rattle.ped_answer.specs.Answer.{IsJust}
use Rattle.ped_answer.specs.TestCounts.{Ticks}
use Rattle.ped_answer.specs.Serving.{AnswersFrom, session_status}
use Rattle.ped_answer.proofs.Counting.{whole_ticks, session_ticks, said_ticks}
use Rattle.ped_answer.proofs.Outcomes.{outcome_weaker, said_from}
use Rattle.ped_answer.proofs.sessions.answer_script.Goals as goal

pub returns-in-Ok-clause-answer : goal.returns-in-Ok-clause-answer
returns-in-Ok-clause-answer g c =
    let o = c.finish.ensures.answer in
    let state = c.args.session.now in
    let script = c.args.script.now in
    let input = c.args.input.now in
    let said = c.in-Ok.ensures.answers in (
      o.0,
      o.1,
      outcome_weaker (IsJust c.status_of.result c.as_slice.result.now) (AnswersFrom state script input)
          (said_from state script input said.0 c.script_answer.new.session said.1 c.status_of.result c.as_slice.result.now (c.status_of.ensures ∙ ap session_status said.3) (c.as_slice.ensures ∙ said.2))
          _ o.0 c.finish.result o.2,
    )

pub returns-in-Ok-clause-tests : goal.returns-in-Ok-clause-tests
returns-in-Ok-clause-tests g c =
    let said = c.in-Ok.ensures.answers in
    let before = c.args.steps.now in
    let after = c.script_answer.new.steps in
    let exact : (a : ℕ) → a ≡ before + said.0.tests → Ticks c.status_of.result before a said.0.tests =
    λ a e. subst (λ (status : Status). Ticks status before a said.0.tests) (sym c.status_of.ensures) (session_ticks c.in-Ok.answered.refused before said.0.tests a e) in
    said_ticks c.args.script.now c.args.input.now c.args.session.now c.finish.result before after
    (said.0, c.script_answer.new.session, said.1, whole_ticks c.finish.result c.status_of.result before after said.0.tests exact c.finish.ensures.ends said.4)
