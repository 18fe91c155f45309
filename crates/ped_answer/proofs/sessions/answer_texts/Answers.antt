use Rattle.std.proofs.Common.{subst}
use Rattle.ped_tree.specs.Views.{program_tree}
use Rattle.ped_session.specs.States.{opened}
use Rattle.ped_call_runs.specs.ped_calls.specs.ped_units.specs.Views.{unit_finding_of, IsUnitRefusalOf}
use Rattle.ped_answer.specs.declared.answering.Status.TheVariants.{ProgramRefused}
use Rattle.ped_answer.specs.Refusals.{refused_line}
use Rattle.ped_answer.specs.Answer.{IsJust, IsSession}
use Rattle.ped_answer.specs.Serving.{AnswersFrom}
use Rattle.ped_answer.proofs.Counting.{idle_writing, is_session_tested, session_text_ticks}
use Rattle.ped_answer.proofs.Outcomes.{outcome_weaker, script_answered, refusal_answered}
use Rattle.ped_answer.proofs.sessions.answer_texts.Goals as goal

pub returns-in-Ok-clause-answer : goal.returns-in-Ok-clause-answer
returns-in-Ok-clause-answer g c =
    let o = c.answer_program.ensures.answer in
    let text = c.args.text.now in
    let script = c.args.script.now in
    let input = c.args.input.now in
    let t = program_tree c.in-Ok.program.program in
    (o.0, o.1, outcome_weaker (AnswersFrom (opened t) script input) (IsSession text script input) (script_answered text script input t c.in-Ok.ensures.tree) _ o.0 c.answer_program.result o.2)

pub returns-in-Ok-clause-tests : goal.returns-in-Ok-clause-tests
returns-in-Ok-clause-tests g c =
    session_text_ticks c.args.text.now c.args.script.now c.args.input.now (program_tree c.in-Ok.program.program) c.in-Ok.ensures.tree c.answer_program.result _ _ c.answer_program.ensures.tests

pub returns-in-Ok-clause-untested : goal.returns-in-Ok-clause-untested
returns-in-Ok-clause-untested g c = λ untested. absurd (is_session_tested c.answer_program.result c.answer_program.ensures.ends untested)

pub returns-in-Err-At-clause-answer : goal.returns-in-Err-At-clause-answer
returns-in-Err-At-clause-answer g c =
    let o = c.is_refused.ensures.answer in
    let text = c.args.text.now in
    let script = c.args.script.now in
    let input = c.args.input.now in
    let f = unit_finding_of c.in-Err-At.refusal in
    (o.0, o.1, outcome_weaker (IsJust ProgramRefused (refused_line f)) (IsSession text script input) (refusal_answered text script input f (subst (IsUnitRefusalOf text) c.in-Err-At.field-0-is c.in-Err-At.ensures.refused)) _ o.0 c.is_refused.result o.2)

pub returns-in-Err-At-clause-tests : goal.returns-in-Err-At-clause-tests
returns-in-Err-At-clause-tests g c = λ n tests. idle_writing c.is_refused.result ProgramRefused _ n (λ e. cc) (λ e. cc) c.is_refused.ensures.ends
