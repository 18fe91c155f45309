use Rattle.std.proofs.Common.{subst}
use Rattle.ped_tree.specs.Views.{program_tree}
use Rattle.ped_versions.specs.States.{State}
use Rattle.ped_versions.specs.ped_valid.specs.Validity.{ReadsValid}
use Rattle.ped_session.proofs.automatic.SessionEditor.is_scalar.Goals as goal

pub returns : goal.returns
returns g c =
    let t = program_tree c.present.result.program.now in
    let reads = subst (λ (s : State). ReadsValid s.present t) c.self.view_is c.present.ensures.reads in
    (t, reads, c.is_scalar.ensures t c.present.ensures.is.symbols)
