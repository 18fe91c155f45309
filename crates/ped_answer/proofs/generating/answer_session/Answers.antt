use Rattle.std.proofs.Common.{sym, subst}
use Rattle.ped_answer.specs.declared.answering.Status.TheVariants.{Done}
use Rattle.ped_answer.specs.Answer.{IsJust}
use Rattle.ped_answer.specs.Generated.{Reports}
use Rattle.ped_answer.specs.Tallies.{AnswersReport}
use Rattle.ped_answer.proofs.Counting.{whole_ticks, tally_ticks}
use Rattle.ped_answer.proofs.Outcomes.{outcome_weaker, report_written}
use Rattle.ped_answer.proofs.generating.answer_session.Goals as goal

pub returns-in-Ok-clause-answer : goal.returns-in-Ok-clause-answer
returns-in-Ok-clause-answer g c =
    let o = c.finish.ensures.answer in
    let r = c.in-Ok.ensures.reports in
    let size = c.args.size in
    let bytes = c.as_slice.result.now in
    (o.0, o.1, outcome_weaker (IsJust Done bytes) (AnswersReport size) (report_written size r.tree bytes r.reads (subst (Reports size r.tree) (sym c.as_slice.ensures) r.reports)) _ o.0 c.finish.result o.2)

pub returns-in-Ok-clause-tests : goal.returns-in-Ok-clause-tests
returns-in-Ok-clause-tests g c =
    let r = c.in-Ok.ensures.reports in
    let before = c.args.steps.now in
    let after = c.report.new.steps in
    tally_ticks c.args.size c.args.session.now c.finish.result before after r.tally r.last r.applies
    (whole_ticks c.finish.result Done before after r.tally.tests (λ a e. e) c.finish.ensures.ends r.ticks)
