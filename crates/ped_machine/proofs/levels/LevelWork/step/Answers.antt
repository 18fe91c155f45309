-- A step of an iteration, in its own scope.
use Rattle.std.proofs.Common.{◌≡◌, sym, subst}
use Rattle.std.specs.Prelude.{IfOk}
use Rattle.ped_store.specs.Keeping.{memory_of}
use Rattle.ped_interleavings.specs.ped_eval.specs.Scopes.{Scope}
use Rattle.ped_interleavings.specs.ped_eval.specs.Agreement.{DoCopiesStand}
use Rattle.ped_interleavings.specs.ped_eval.specs.Readiness.{setting_by}
use Rattle.ped_interleavings.specs.Steps.{step}
use Rattle.ped_machine.specs.declared.levels.Level.{Level}
use Rattle.ped_machine.specs.Parts.{parts_of, base_of}
use Rattle.ped_machine.specs.Bases.{HasKept}
use Rattle.ped_machine.specs.Growth.{parts_within}
use Rattle.ped_machine.specs.Doing.{IsDone, IfSafe}
use Rattle.ped_machine.proofs.Dropping.{kept_outside}
use Rattle.ped_machine.proofs.Stepped.{safe_both}
use Rattle.ped_machine.specs.Rests.{rest_left, IsSound}
use Rattle.ped_machine.specs.Levels.{IsSoundLevel}
use Rattle.ped_machine.proofs.OpenSteps.{open_both}
use Rattle.ped_machine.proofs.levels.LevelWork.step.Goals as goal

pub returns-clause-does : goal.returns-clause-does
returns-clause-does g c =
    let left = g.C.Work.left in
    let p = setting_by c.args.symbols.now in
    let old = c.args.self.now in
    let s = (memory_of c.args.state.now.store).cells in
    let u = (memory_of c.step-answer.new.state.store).cells in
    let r = c.step-answer.result in
    let new = c.step-answer.new.self in
    subst (λ (z : Scope). IfOk r (λ d. IsDone (step p (rest_left left old.scope old.rest) c.args.choice s) (rest_left left old.scope old.rest) s d (rest_left left z new) u)) (sym c.swap-2.ensures.x_after)
    (subst (λ (z : Scope). IfOk r (λ d. IsDone (step p (rest_left left z old.rest) c.args.choice s) (rest_left left z old.rest) s d (rest_left left c.step-answer.new.state.scope new) u)) c.swap.ensures.y_after c.step-answer.ensures.does)

pub returns-clause-sound : goal.returns-clause-sound
returns-clause-sound g c =
    let table = c.args.symbols.now in
    let m = memory_of c.step-answer.new.state.store in
    let new = c.step-answer.new.self in
    let inner = c.step-answer.new.state.scope in
    let level : Level _ = record { scope = c.swap-2.new.x; rest = new } in
    open_both c.step-answer.result (IsSound g.C.Work.left g.C.Work.base g.C.Work.sound inner new table m.stands) (DoCopiesStand inner m.stands) (IsSoundLevel g.C.Work.left g.C.Work.base g.C.Work.sound level table m.stands)
    (λ (h : IsSound g.C.Work.left g.C.Work.base g.C.Work.sound inner new table m.stands) (k : DoCopiesStand inner m.stands). record {
      rest = subst (λ (z : Scope). IsSound g.C.Work.left g.C.Work.base g.C.Work.sound z new table m.stands) (sym c.swap-2.ensures.x_after) h;
      copies = subst (λ (z : Scope). DoCopiesStand z m.stands) (sym c.swap-2.ensures.x_after) k;
    })
    c.step-answer.ensures.sound c.step-answer.ensures.copies

pub returns-clause-inside : goal.returns-clause-inside
returns-clause-inside g c =
    let r = c.step-answer.result in
    let old = c.args.self.now in
    let new = parts_of c.step-answer.new.self.parts in
    subst (λ (z : Scope). IfSafe r (base_of new z ≡ base_of (parts_of old.rest.parts) old.scope)) (sym c.swap-2.ensures.x_after)
    (subst (λ (z : Scope). IfSafe r (base_of new c.step-answer.new.state.scope ≡ base_of (parts_of old.rest.parts) z)) c.swap.ensures.y_after c.step-answer.ensures.base)

pub returns-clause-grown : goal.returns-clause-grown
returns-clause-grown g c =
    let r = c.step-answer.result in
    let old = c.args.self.now in
    let m = memory_of c.args.state.now.store in
    let new = memory_of c.step-answer.new.state.store in
    let base = base_of (parts_of old.rest.parts) old.scope in
    let h = subst (λ (z : Scope). IfSafe r (HasKept z m new)) c.swap.ensures.y_after c.step-answer.ensures.grown in
    safe_both r (HasKept old.scope m new) (HasKept old.scope m new) (HasKept base m new) (λ k q. kept_outside base old.scope m new (parts_within (parts_of old.rest.parts) old.scope) k) h h
