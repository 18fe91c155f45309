-- A step of an iteration that is started for it.
use Rattle.std.proofs.Common.{◌<◌, refl, sym, subst}
use Rattle.ped_store.specs.Keeping.{memory_of}
use Rattle.ped_interleavings.specs.ped_eval.specs.Scopes.{Scope}
use Rattle.ped_interleavings.specs.ped_eval.specs.Readiness.{setting_by}
use Rattle.ped_interleavings.specs.ped_eval.specs.declared.plans.Plan.{Plan}
use Rattle.ped_machine.specs.Doing.{IfOpen}
use Rattle.ped_machine.specs.Opens.{IsOpen}
use Rattle.ped_machine.proofs.Growing.{ready_there}
use Rattle.ped_machine.proofs.Dropping.{nothing_kept, grown_kept}
use Rattle.ped_machine.proofs.Starting.{started_does, started_kept, started_grown}
use Rattle.ped_machine.proofs.opens.Open.step_at.Goals as goal

pub step_running-requires : goal.step_running-requires
step_running-requires g c κs =
    let m = memory_of c.args.state.now.store in
    let after = memory_of c.start.new.state.store in
    let e = c.in-Ok.ensures in (
      (refl, tt),
      (
        ready_there c.args.symbols.now c.args.state.now.scope c.start.new.state.scope m after e.scope e.room.grown c.requires.ready,
        (
          subst (λ (z : Scope). IsOpen g.C.Work.left g.C.Work.base g.C.Work.sound c.args.symbols.now after.stands z c.start.new.self) (sym e.scope) (e.inner c.args.symbols.now c.requires.ready c.requires.inner),
          (subst (λ (p : Plan). c.args.place < p.count) (sym e.same.plan) c.requires.place, e.running),
        ),
      ),
    )

pub returns-in-Ok-clause-does : goal.returns-in-Ok-clause-does
returns-in-Ok-clause-does g c =
    started_does g.C.Work.left c.args.state.now.scope c.start.new.state.scope c.args.self.now c.start.new.self c.step_running.new.self c.args.place (memory_of c.args.state.now.store) (memory_of c.start.new.state.store) (memory_of c.step_running.new.state.store)
    c.step_running.result c.in-Ok.ensures.scope (c.in-Ok.ensures.left c.args.place c.requires.place) c.in-Ok.ensures.room (setting_by c.args.symbols.now) c.args.choice c.step_running.ensures.does

pub returns-in-Ok-clause-kept : goal.returns-in-Ok-clause-kept
returns-in-Ok-clause-kept g c =
    started_kept g.C.Work.left c.args.state.now.scope c.start.new.state.scope c.args.self.now c.start.new.self c.step_running.new.self c.args.place (memory_of c.args.state.now.store) (memory_of c.start.new.state.store) (memory_of c.step_running.new.state.store)
    c.step_running.result c.in-Ok.ensures.scope (c.in-Ok.ensures.left c.args.place c.requires.place) c.in-Ok.ensures.room c.step_running.ensures.kept

pub returns-in-Ok-clause-grown : goal.returns-in-Ok-clause-grown
returns-in-Ok-clause-grown g c =
    started_grown g.C.Work.left g.C.Work.base g.C.Work.sound c.args.state.now.scope c.start.new.state.scope c.args.self.now c.start.new.self c.args.place (memory_of c.args.state.now.store) (memory_of c.start.new.state.store) (memory_of c.step_running.new.state.store)
    c.step_running.result c.in-Ok.ensures.scope c.in-Ok.ensures.same c.in-Ok.ensures.room c.step_running.ensures.grown

pub returns-in-Err-clause-grown : goal.returns-in-Err-clause-grown
returns-in-Err-clause-grown g c = grown_kept _ (memory_of c.args.state.now.store) (memory_of c.start.new.state.store) c.in-Err.ensures.room.grown

pub returns-in-Running-clause-grown : goal.returns-in-Running-clause-grown
returns-in-Running-clause-grown g c = c.step_running-in-Running.ensures.grown

pub returns-in-Done-clause-grown : goal.returns-in-Done-clause-grown
returns-in-Done-clause-grown g c = nothing_kept _ (memory_of c.args.state.now.store)

pub returns-in-Ok-clause-inner : goal.returns-in-Ok-clause-inner
returns-in-Ok-clause-inner g c =
    subst (λ (z : Scope). IfOpen c.step_running.result (IsOpen g.C.Work.left g.C.Work.base g.C.Work.sound c.args.symbols.now (memory_of c.step_running.new.state.store).stands z c.step_running.new.self))
    c.in-Ok.ensures.scope c.step_running.ensures.inner
