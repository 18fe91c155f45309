use Rattle.std.proofs.Common.{subst}
use Rattle.ped_tree.specs.Views.{program_tree}
use Rattle.ped_transformations.specs.ped_graph.specs.DependencePane.{IsDependencePane}
use Rattle.ped_versions.specs.States.{State}
use Rattle.ped_versions.specs.ped_valid.specs.Validity.{ReadsValid}
use Rattle.ped_session.proofs.Shown.{shown}
use Rattle.ped_session.proofs.session.Session.show_all_dependences.Goals as goal

pub returns : goal.returns
returns g c =
    let t = program_tree c.present.result.program.now in
    let reads = subst (λ (s : State). ReadsValid s.present t) c.self.view_is c.present.ensures.reads in
    shown IsDependencePane t c.args.self.now c.in_ok-dependence_pane.field-0 reads
    (c.in_ok-dependence_pane.ensures t c.present.ensures.is.graph)
