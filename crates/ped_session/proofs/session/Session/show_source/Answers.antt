use Rattle.std.proofs.Common.{subst}
use Rattle.ped_tree.specs.Views.{program_tree}
use Rattle.ped_session.specs.Panes.{IsSourcePane}
use Rattle.ped_versions.specs.States.{State}
use Rattle.ped_versions.specs.ped_valid.specs.Validity.{ReadsValid}
use Rattle.ped_session.proofs.Shown.{shown}
use Rattle.ped_session.proofs.session.Session.show_source.Goals as goal

pub returns : goal.returns
returns g c =
    let t = program_tree c.present.result.program.now in
    let reads = subst (λ (s : State). ReadsValid s.present t) c.self.view_is c.present.ensures.reads in
    shown IsSourcePane t c.args.self.now c.in_ok-source_pane.field-0 reads c.in_ok-source_pane.ensures
