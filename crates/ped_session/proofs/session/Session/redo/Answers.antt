use Rattle.std.proofs.Common.{Bool, ap, subst}
use Rattle.std.specs.Prelude.{is_ok}
use Rattle.ped_versions.specs.States.{State}
use Rattle.ped_versions.specs.Changing.{MovesForward}
use Rattle.ped_session.proofs.Moved.{went_forward, stayed_first, forward_kept}
use Rattle.ped_session.proofs.session.Session.redo.Goals as goal

pub invariant_of-self : goal.invariant_of-self
invariant_of-self g c = forward_kept _ c.self.inside.versions c.redo.new.self c.self.invariant c.redo.ensures

pub returns-in-Ok : goal.returns-in-Ok
returns-in-Ok g c =
    let s = c.args.self.now in
    went_forward s.future s c.redo.new.self
    (subst (λ (b : Bool). MovesForward s.future s b c.redo.new.self) (ap is_ok c.in-Ok.is)
    (subst (λ (u : State). MovesForward u.future u (is_ok c.redo.result) c.redo.new.self) c.self.view_is c.redo.ensures))

pub returns-in-Err : goal.returns-in-Err
returns-in-Err g c =
    let s = c.args.self.now in
    stayed_first s.future s c.redo.new.self
    (subst (λ (b : Bool). MovesForward s.future s b c.redo.new.self) (ap is_ok c.in-Err.is)
    (subst (λ (u : State). MovesForward u.future u (is_ok c.redo.result) c.redo.new.self) c.self.view_is c.redo.ensures))
