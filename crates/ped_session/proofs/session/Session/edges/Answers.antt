use Rattle.std.proofs.Common.{sym, subst}
use Rattle.std.proofs.lemmas.Result.{IfOk-weaker}
use Rattle.ped_versions.specs.States.{State}
use Rattle.ped_versions.specs.ped_valid.specs.Validity.{ReadsValid}
use Rattle.ped_session.proofs.session.Session.edges.Goals as goal

pub returns : goal.returns
returns g c = IfOk-weaker c.edges.result _ _ (λ n is t reads. is t (subst (λ (s : State). ReadsValid s.present t) (sym c.self.view_is) reads)) c.edges.ensures
