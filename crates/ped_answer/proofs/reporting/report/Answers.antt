use Rattle.std.proofs.lemmas.Result.{IfOk-weaker}
use Rattle.ped_session.specs.ped_rules.specs.ped_eval.specs.OutcomeViews.{outcome_view}
use Rattle.ped_answer.proofs.Reports.{reported}
use Rattle.ped_answer.proofs.reporting.report.Goals as goal

pub returns-clause-reports : goal.returns-clause-reports
returns-clause-reports g c =
    let o = c.requires.opened in
    IfOk-weaker c.report_last.result _ _ (λ bytes rest.
    reported c.sources_are_printed.ensures c.args.size c.args.session.now c.apply_script.new.session o.0 o.1 o.2
    (outcome_view c.in_ok-first.first) c.in_ok-first.ensures.outcome c.in_ok-tally.tally c.args.steps.now c.apply_script.new.steps c.in_ok-tally.ensures.applies bytes rest) c.report_last.ensures
