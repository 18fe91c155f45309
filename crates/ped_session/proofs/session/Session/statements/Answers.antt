use Rattle.std.proofs.Common.{sym, subst}
use Rattle.ped_versions.specs.States.{State}
use Rattle.ped_versions.specs.ped_valid.specs.Validity.{ReadsValid}
use Rattle.ped_session.proofs.session.Session.statements.Goals as goal

pub returns : goal.returns
returns g c t reads = c.statements.ensures t (subst (λ (s : State). ReadsValid s.present t) (sym c.self.view_is) reads)
