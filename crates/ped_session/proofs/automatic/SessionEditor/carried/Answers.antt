use Rattle.std.proofs.Common.{subst}
use Rattle.std.proofs.lemmas.Result.{IfOk-weaker}
use Rattle.ped_tree.specs.Views.{program_tree}
use Rattle.ped_versions.specs.States.{State}
use Rattle.ped_versions.specs.ped_valid.specs.Validity.{ReadsValid}
use Rattle.ped_session.proofs.automatic.SessionEditor.carried.Goals as goal

pub returns : goal.returns
returns g c =
    let t = program_tree c.present-present.result.program.now in
    let reads = subst (λ (s : State). ReadsValid s.present t) c.self.view_is c.present-present.ensures.reads in
    IfOk-weaker c.carried_names.result _ _ (λ names h. (t, reads, h)) c.carried_names.ensures
