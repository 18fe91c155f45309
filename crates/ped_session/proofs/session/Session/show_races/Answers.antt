use Rattle.std.proofs.Common.{subst}
use Rattle.ped_tree.specs.Views.{program_tree}
use Rattle.ped_order.specs.ReportViews.{report_view}
use Rattle.ped_session.specs.RaceRows.{IsRaceRow}
use Rattle.ped_versions.specs.States.{State}
use Rattle.ped_versions.specs.ped_valid.specs.Validity.{ReadsValid}
use Rattle.ped_session.proofs.Shown.{shown}
use Rattle.ped_session.proofs.session.Session.show_races.Goals as goal

pub returns : goal.returns
returns g c =
    let t = program_tree c.present-present.result.program.now in
    let reads = subst (λ (s : State). ReadsValid s.present t) c.self.view_is c.present-present.ensures.reads in
    shown (IsRaceRow c.args.input.now) t c.args.self.now c.in_ok-race_row.field-0 reads
    (report_view c.in_ok-report.report, c.in_ok-report.ensures.report, c.in_ok-race_row.ensures)
