use Rattle.std.proofs.Common.{subst, arith}
use Rattle.ped_tree.specs.Views.{program_tree}
use Rattle.ped_session.specs.States.{State, opened}
use Rattle.ped_answer.specs.Serving.{AnswersFrom}
use Rattle.ped_answer.proofs.Counting.{is_session_tested, opened_ticks}
use Rattle.ped_answer.proofs.Outcomes.{outcome_weaker}
use Rattle.ped_answer.proofs.sessions.answer_program.Goals as goal

pub returns-in-Ok-clause-answer : goal.returns-in-Ok-clause-answer
returns-in-Ok-clause-answer g c =
    let o = c.answer_script.ensures.answer in
    let script = c.args.script.now in
    let input = c.args.input.now in
    let first = opened (program_tree c.args.program.program) in
    (o.0, o.1, outcome_weaker (AnswersFrom c.in-Ok.session script input) (AnswersFrom first script input) (λ s b h. subst (λ (x : State). AnswersFrom x script input s b) c.in-Ok.ensures.opened h) _ o.0 c.answer_script.result o.2)

pub returns-in-Ok-clause-tests : goal.returns-in-Ok-clause-tests
returns-in-Ok-clause-tests g c =
    opened_ticks c.args.script.now c.args.input.now (program_tree c.args.program.program) c.in-Ok.session c.answer_script.result _ _ _
    c.in-Ok.ensures.opened c.in-Ok.ensures.ticks c.answer_script.ensures.tests (is_session_tested c.answer_script.result c.answer_script.ensures.ends)

pub returns-in-Err-clause-tests : goal.returns-in-Err-clause-tests
returns-in-Err-clause-tests g c = λ said last answers. let most = c.begin.ensures.most in omega (arith, most)
