use Rattle.std.proofs.Common.{subst}
use Rattle.ped_tree.specs.Views.{program_tree}
use Rattle.ped_transformations.specs.ped_steps.proofs.Answering.{few_numbers}
use Rattle.ped_transformations.specs.ped_inline.specs.CallsPane.{IsCallsPane}
use Rattle.ped_versions.specs.States.{State}
use Rattle.ped_versions.specs.ped_valid.specs.Validity.{ReadsValid}
use Rattle.ped_session.proofs.Shown.{shown}
use Rattle.ped_session.proofs.session.Session.show_calls.Goals as goal

pub flow_of-requires : goal.flow_of-requires
flow_of-requires g c = few_numbers (program_tree c.present-present.result.program.now) c.present-present.ensures.is.valid

pub returns : goal.returns
returns g c =
    let t = program_tree c.present-present.result.program.now in
    let reads = subst (λ (s : State). ReadsValid s.present t) c.self.view_is c.present-present.ensures.reads in
    shown IsCallsPane t c.args.self.now c.in_ok-calls_pane.field-0 reads c.in_ok-calls_pane.ensures
