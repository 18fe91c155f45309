use Rattle.std.proofs.Common.{subst, sym, ◌∙◌}
use Rattle.ped_tree.specs.Views.{program_tree}
use Rattle.ped_versions.specs.States.{State}
use Rattle.ped_versions.specs.ped_valid.specs.Validity.{ReadsValid}
use Rattle.ped_session.proofs.Shown.{shown_system, refused_system}
use Rattle.ped_session.proofs.session.Session.show_system.Goals as goal

pub returns-in-Some : goal.returns-in-Some
returns-in-Some g c =
    let t = program_tree c.present-present.result.program.now in
    let reads = subst (λ (s : State). ReadsValid s.present t) c.self.view_is c.present-present.ensures.reads in
    shown_system t c.args.self.now reads c.args.source.now c.args.sink.now c.args.pattern.now _ (sym c.in_ok-text.ensures ∙ c.in-Some.is)

pub returns-in-None : goal.returns-in-None
returns-in-None g c =
    let t = program_tree c.present-present.result.program.now in
    let reads = subst (λ (s : State). ReadsValid s.present t) c.self.view_is c.present-present.ensures.reads in
    refused_system t c.args.self.now reads c.args.source.now c.args.sink.now c.args.pattern.now (sym c.in_ok-text.ensures ∙ c.in-None.is)
