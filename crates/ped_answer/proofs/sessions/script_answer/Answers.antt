use Rattle.std.proofs.Common.{List, ◌≡◌, ◌+◌, ◌∙◌, sym, subst, IfOk}
use Rattle.ped_script.specs.declared.items.Item.{Item}
use Rattle.ped_session.specs.declared.answers.Answered.{Answered}
use Rattle.ped_session.specs.Scripts.{Said, AnswersItems}
use Rattle.ped_answer.proofs.sessions.script_answer.Goals as goal

pub returns-clause-answers : goal.returns-clause-answers
returns-clause-answers g c =
    subst (λ (items : List Item). IfOk c.answer_items.result (λ (answered : Answered). (said : Said) × AnswersItems items c.args.input.now c.args.session.now said c.answer_items.new.session
    × (answered.bytes ≡ said.bytes) × (answered.refused ≡ said.refused) × (c.answer_items.new.steps ≡ c.args.steps.now + said.tests))) (c.as_slice.ensures ∙ c.in_ok-items.ensures) c.answer_items.ensures.answers

pub returns-clause-most : goal.returns-clause-most
returns-clause-most g c = λ said last answers.
    c.answer_items.ensures.most said last (subst (λ (items : List Item). AnswersItems items c.args.input.now c.args.session.now said last) (sym (c.as_slice.ensures ∙ c.in_ok-items.ensures)) answers)
