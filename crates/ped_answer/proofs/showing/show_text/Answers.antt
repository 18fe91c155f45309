use Rattle.std.proofs.Common.{subst}
use Rattle.ped_tree.specs.Views.{program_tree}
use Rattle.ped_call_runs.specs.ped_calls.specs.ped_units.specs.Views.{unit_finding_of, IsUnitRefusalOf}
use Rattle.ped_answer.specs.declared.answering.Status.TheVariants.{Done, ProgramRefused}
use Rattle.ped_answer.specs.Refusals.{refused_line}
use Rattle.ped_answer.specs.Answer.{IsJust, IsShown, ShowsTree}
use Rattle.ped_answer.proofs.Counting.{idle_writing, is_tested, text_ticks}
use Rattle.ped_answer.proofs.Outcomes.{outcome_weaker, tree_shown, refusal_shown}
use Rattle.ped_answer.proofs.showing.show_text.Goals as goal

pub returns-in-Ok-clause-answer : goal.returns-in-Ok-clause-answer
returns-in-Ok-clause-answer g c =
    let o = c.show_program.ensures.answer in
    let text = c.args.text.now in
    let t = program_tree c.in-Ok.opened.program in
    (o.0, o.1, outcome_weaker (ShowsTree t) (IsShown text) (tree_shown text t c.in-Ok.ensures.tree) _ o.0 c.show_program.result o.2)

pub returns-in-Err-At-clause-answer : goal.returns-in-Err-At-clause-answer
returns-in-Err-At-clause-answer g c =
    let o = c.is_refused.ensures.answer in
    let text = c.args.text.now in
    let f = unit_finding_of c.in-Err-At.refusal in
    (o.0, o.1, outcome_weaker (IsJust ProgramRefused (refused_line f)) (IsShown text) (refusal_shown text f (subst (IsUnitRefusalOf text) c.in-Err-At.field-0-is c.in-Err-At.ensures.refused)) _ o.0 c.is_refused.result o.2)

pub returns-in-Ok-clause-tests : goal.returns-in-Ok-clause-tests
returns-in-Ok-clause-tests g c = text_ticks c.args.text.now (program_tree c.in-Ok.opened.program) c.in-Ok.ensures.tree c.show_program.result _ _ c.show_program.ensures.tests

pub returns-in-Ok-clause-untested : goal.returns-in-Ok-clause-untested
returns-in-Ok-clause-untested g c = λ untested. absurd (is_tested c.show_program.result Done (λ u. u) c.show_program.ensures.ends untested)

pub returns-in-Err-At-clause-tests : goal.returns-in-Err-At-clause-tests
returns-in-Err-At-clause-tests g c = λ n tests. idle_writing c.is_refused.result ProgramRefused _ n (λ e. cc) (λ e. cc) c.is_refused.ensures.ends
