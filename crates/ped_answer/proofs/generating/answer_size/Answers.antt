use Rattle.std.proofs.Common.{◌≡◌, ◌+◌, ◌≤◌, ℕ, List, ◌∙◌, sym, subst}
use Rattle.ped_tree.specs.Tree.{ProgramTree}
use Rattle.ped_tree.specs.Grammar.Refusal.{Finding}
use Rattle.ped_tree.specs.Grammar.RefusalViews.{finding_of}
use Rattle.ped_session.specs.ped_refs.specs.References.{references, pair_count}
use Rattle.ped_session.specs.ped_valid.specs.Refusals.{IsRefusalOf}
use Rattle.ped_session.specs.ped_valid.specs.Validity.{ReadsValid, RefusesText}
use Rattle.ped_session.specs.States.{opened}
use Rattle.ped_answer.specs.declared.answering.Status.TheVariants.{ProgramRefused}
use Rattle.ped_call_runs.specs.ped_calls.specs.ped_units.specs.Verdicts.{found_in_text}
use Rattle.ped_answer.specs.Refusals.{refused_line}
use Rattle.ped_answer.specs.Answer.{IsJust}
use Rattle.ped_answer.specs.Generated.{IsGenerated}
use Rattle.ped_answer.specs.Tallies.{AnswersReport}
use Rattle.ped_answer.specs.TestCounts.{Ticks}
use Rattle.ped_answer.proofs.Counting.{idle_writing, is_report_tested, made_ticks, unmade_ticks}
use Rattle.ped_answer.proofs.Outcomes.{outcome_weaker, report_generated, refusal_generated}
use Rattle.ped_answer.proofs.generating.answer_size.Goals as goal

pub returns-in-Ok-open-clause-answer : goal.returns-in-Ok-open-clause-answer
returns-in-Ok-open-clause-answer g c =
    let o = c.answer_session.ensures.answer in
    let size = c.args.size in
    (o.0, o.1, outcome_weaker (AnswersReport size) (IsGenerated size) (report_generated size) _ o.0 c.answer_session.result o.2)

pub returns-in-Ok-open-clause-tests : goal.returns-in-Ok-open-clause-tests
returns-in-Ok-open-clause-tests g c =
    let before = c.args.steps.now in
    made_ticks c.args.size c.in-Ok-open.session c.answer_session.result before c.open.new.steps c.answer_session.new.steps
    (subst (λ (text : List ℕ). (t : ProgramTree) × ReadsValid text t × (c.in-Ok-open.session ≡ opened t)) (c.as_slice.ensures ∙ c.in-Ok.ensures) c.in-Ok-open.ensures.opened)
    (subst (λ (text : List ℕ). (t : ProgramTree) → ReadsValid text t → c.open.new.steps ≡ before + pair_count (references t)) (c.as_slice.ensures ∙ c.in-Ok.ensures) c.in-Ok-open.ensures.ticks)
    c.answer_session.ensures.tests (is_report_tested c.answer_session.result c.answer_session.ensures.ends)

pub returns-in-Ok-open-clause-untested : goal.returns-in-Ok-open-clause-untested
returns-in-Ok-open-clause-untested g c = λ untested. absurd (is_report_tested c.answer_session.result c.answer_session.ensures.ends untested)

pub returns-in-Err-At-clause-answer : goal.returns-in-Err-At-clause-answer
returns-in-Err-At-clause-answer g c =
    let o = c.is_refused_text.ensures.answer in
    let size = c.args.size in
    let f = finding_of c.in-Err-At.refusal in
    let refused = subst (λ (text : List ℕ). RefusesText text f) (c.as_slice.ensures ∙ c.in-Ok.ensures) (subst (IsRefusalOf c.as_slice.result.now) c.in-Err-At.field-0-is c.in-Err-At.ensures.refused) in
    (o.0, o.1, outcome_weaker (IsJust ProgramRefused (refused_line (found_in_text f))) (IsGenerated size) (refusal_generated size f refused) _ o.0 c.is_refused_text.result o.2)

pub returns-in-Err-At-clause-tests : goal.returns-in-Err-At-clause-tests
returns-in-Err-At-clause-tests g c = λ n tests.
    let still = c.in-Err-At.ensures.untested (λ e. let f = sym c.in-Err-At.field-0-is ∙ e in cc) in
    let before = c.args.steps.now in
    subst (λ (after : ℕ). Ticks c.is_refused_text.result before after n) (sym still) (idle_writing c.is_refused_text.result ProgramRefused before n (λ e. cc) (λ e. cc) c.is_refused_text.ensures.ends)

pub returns-in-Ok-clause-tests : goal.returns-in-Ok-clause-tests
returns-in-Ok-clause-tests g c =
    let before = c.args.steps.now in
    let after = c.open.new.steps in
    unmade_ticks c.args.size before after
    (subst (λ (text : List ℕ). (t : ProgramTree) → ReadsValid text t → after ≤ before + pair_count (references t)) (c.as_slice.ensures ∙ c.in-Ok.ensures) c.open.ensures.most)
    (subst (λ (text : List ℕ). (f : Finding) → RefusesText text f → after ≡ before) (c.as_slice.ensures ∙ c.in-Ok.ensures) c.open.ensures.none)
