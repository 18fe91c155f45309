use Rattle.std.proofs.Common.{ap₂, ◌++◌, subst, ◌∙◌}
use Rattle.ped_tree.specs.Views.{program_tree}
use Rattle.ped_versions.specs.States.{State}
use Rattle.ped_versions.specs.ped_valid.specs.Validity.{ReadsValid}
use Rattle.ped_session.specs.Panes.{ArePanes}
use Rattle.ped_session.proofs.Shown.{shown}
use Rattle.ped_session.proofs.session.Session.show_both.Goals as goal

pub returns : goal.returns
returns g c =
    let t = program_tree c.present-present.result.program.now in
    let reads = subst (λ (s : State). ReadsValid s.present t) c.self.view_is c.present-present.ensures.reads in
    shown ArePanes t c.args.self.now c.extend_from_slice.new.self reads
    (c.in_ok-dependences.dependences, c.in_ok-dependences.ensures t c.present-present.ensures.is.graph, c.in_ok-extend_from_slice.ensures.ok ∙ ap₂ ◌++◌ c.in_ok-panes.ensures c.as_slice.ensures)
