use Rattle.std.proofs.Common.{[], sym, ap, subst, ◌∙◌}
use Rattle.ped_tree.specs.Views.{program_tree}
use Rattle.ped_store.specs.Races.{accesses}
use Rattle.ped_laws.specs.ped_eval.specs.Outcomes.{run_of}
use Rattle.ped_order.specs.Reports.{IsReport}
use Rattle.ped_order.specs.ReportViews.{report_view, report_of}
use Rattle.ped_order.proofs.Following.{seen_all, reported}
use Rattle.ped_order.proofs.Carried.{reported_carried}
use Rattle.ped_order.proofs.searching.races.Goals as goal

pub returns-clause-report : goal.returns-clause-report
returns-clause-report c =
    let t = program_tree c.args.program.now in
    let data_bytes = c.args.input.now in
    let watch = c.run_watched.new.watch in
    let saw = seen_all c.new-watch.result watch [] (accesses (run_of t data_bytes).acts) c.in_ok-outcome.ensures.watch c.new-watch.ensures in
    subst (IsReport t data_bytes) (sym (c.report.ensures ∙ ap (report_of watch.found) c.in_ok-outcome.ensures.outcome)) (reported t data_bytes watch.found watch.table saw)

pub returns-clause-carried : goal.returns-clause-carried
returns-clause-carried c = λ edges are.
    let t = program_tree c.args.program.now in
    let data_bytes = c.args.input.now in
    let watch = c.run_watched.new.watch in
    let saw = seen_all c.new-watch.result watch [] (accesses (run_of t data_bytes).acts) c.in_ok-outcome.ensures.watch c.new-watch.ensures in
    reported_carried t data_bytes edges (λ a b come races. c.races_are_covered.ensures t data_bytes a b edges c.requires.valid come races are) (report_view c.report.result)
    (subst (IsReport t data_bytes) (sym (c.report.ensures ∙ ap (report_of watch.found) c.in_ok-outcome.ensures.outcome)) (reported t data_bytes watch.found watch.table saw))
