use Rattle.std.proofs.Common.{Bool, ap, subst}
use Rattle.std.specs.Prelude.{is_ok}
use Rattle.ped_versions.specs.States.{State}
use Rattle.ped_versions.specs.Changing.{MovesBack}
use Rattle.ped_session.proofs.Moved.{went_back, stayed_last, back_kept}
use Rattle.ped_session.proofs.session.Session.undo.Goals as goal

pub invariant_of-self : goal.invariant_of-self
invariant_of-self g c = back_kept _ c.self.inside.versions c.undo.new.self c.self.invariant c.undo.ensures

pub returns-in-Ok : goal.returns-in-Ok
returns-in-Ok g c =
    let s = c.args.self.now in
    went_back s.past s c.undo.new.self
    (subst (λ (b : Bool). MovesBack s.past s b c.undo.new.self) (ap is_ok c.in-Ok.is)
    (subst (λ (u : State). MovesBack u.past u (is_ok c.undo.result) c.undo.new.self) c.self.view_is c.undo.ensures))

pub returns-in-Err : goal.returns-in-Err
returns-in-Err g c =
    let s = c.args.self.now in
    stayed_last s.past s c.undo.new.self
    (subst (λ (b : Bool). MovesBack s.past s b c.undo.new.self) (ap is_ok c.in-Err.is)
    (subst (λ (u : State). MovesBack u.past u (is_ok c.undo.result) c.undo.new.self) c.self.view_is c.undo.ensures))
