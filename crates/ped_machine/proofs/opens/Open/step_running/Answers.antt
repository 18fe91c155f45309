-- What is left of a loop behind a step of an iteration that runs.
use Rattle.std.proofs.Common.{Some, Ok, rules, refl}
use Rattle.ped_store.specs.Keeping.{memory_of}
use Rattle.ped_machine.proofs.Acting.{open_by}
use Rattle.ped_machine.proofs.Dropping.{grown_kept}
use Rattle.ped_machine.proofs.Growing.{ready_in}
use Rattle.ped_machine.proofs.Forgetting.{other_latest}
use Rattle.ped_machine.proofs.OpenSteps.{if_going}
use Rattle.ped_machine.proofs.Stepped.{step_elsewhere, step_does, step_kept, step_open, wanted_open}
use Rattle.ped_machine.proofs.opens.Open.step_running.Goals as goal

pub step_task-requires : goal.step_task-requires
step_task-requires g c κs =
    ((refl, tt), (ready_in c.args.symbols.now c.args.state.now.scope _ (memory_of c.args.state.now.store) c.requires.ready tt, (_, c.requires.inner.running c.args.place c.args.key c.requires.place c.requires.running)))

pub returns-in-Ok-clause-does : goal.returns-in-Ok-clause-does
returns-in-Ok-clause-does g c =
    step_does g.C.Work.left g.C.Work.base g.C.Work.sound c.args.state.now.scope c.args.symbols.now (memory_of c.args.state.now.store) (memory_of c.step_task.new.state.store) (memory_of c.finish_over.new.state.store) c.args.choice
    c.args.self.now c.step_task.new.self c.finish_over.new.self c.args.place c.args.key c.requires.inner c.requires.place c.requires.running c.in-Ok.done c.in-Ok.ensures.stepped c.in-Ok.ensures.same.0 c.in-Ok.ensures.same.1 c.finish_over.ensures.settled

pub returns-in-Ok-clause-elsewhere : goal.returns-in-Ok-clause-elsewhere
returns-in-Ok-clause-elsewhere g c =
    open_by {E = ⊥} (Ok c.in-Ok.done) _
    (step_elsewhere g.C.Work.left g.C.Work.base g.C.Work.sound c.args.state.now.scope c.args.symbols.now (memory_of c.args.state.now.store) (memory_of c.step_task.new.state.store) (memory_of c.finish_over.new.state.store) c.args.choice
    c.args.self.now c.step_task.new.self c.finish_over.new.self c.args.place c.args.key c.requires.inner c.requires.place c.requires.running c.in-Ok.done c.in-Ok.ensures.stepped c.in-Ok.ensures.same.0 c.in-Ok.ensures.same.1 c.finish_over.ensures.settled)

pub returns-in-Ok-clause-inner : goal.returns-in-Ok-clause-inner
returns-in-Ok-clause-inner g c =
    let k : g.claim c.lifetimes = search rules in
    let st = c.in-Ok.ensures.stepped in
    if_going c.in-Ok.done _ _ (λ h. other_latest g.C.Work.left g.C.Work.base g.C.Work.sound c.args.state.now.scope c.args.symbols.now (memory_of c.finish_over.new.state.store).stands c.finish_over.new.self (Some c.args.place) h)
    (step_open g.C.Work.left g.C.Work.base g.C.Work.sound c.args.state.now.scope c.args.symbols.now (memory_of c.args.state.now.store) (memory_of c.step_task.new.state.store) (memory_of c.finish_over.new.state.store) c.args.choice
    c.args.self.now c.step_task.new.self c.finish_over.new.self c.args.place c.args.key c.requires.inner c.requires.place c.requires.running c.in-Ok.done st c.in-Ok.ensures.same.0 c.in-Ok.ensures.same.1 c.finish_over.ensures.settled
    (g.met.C.Work c.lifetimes k).grows (c.in-Ok.ensures.grown st.task st.was))

pub returns-in-Ok-clause-grown : goal.returns-in-Ok-clause-grown
returns-in-Ok-clause-grown g c =
    let st = c.in-Ok.ensures.stepped in
    step_kept g.C.Work.left g.C.Work.base g.C.Work.sound c.args.state.now.scope c.args.symbols.now (memory_of c.args.state.now.store) (memory_of c.step_task.new.state.store) (memory_of c.finish_over.new.state.store) c.args.choice
    c.args.self.now c.step_task.new.self c.finish_over.new.self c.args.place c.args.key c.requires.inner c.requires.place c.requires.running c.in-Ok.done st c.in-Ok.ensures.same.0 c.in-Ok.ensures.same.1 c.finish_over.ensures.settled
    (c.in-Ok.ensures.grown st.task st.was)

pub returns-in-Err-clause-grown : goal.returns-in-Err-clause-grown
returns-in-Err-clause-grown g c =
    grown_kept _ (memory_of c.args.state.now.store) (memory_of c.step_task.new.state.store) c.in-Err.ensures.stepped.kept.1.grown

pub returns-in-Err-clause-inner : goal.returns-in-Err-clause-inner
returns-in-Err-clause-inner g c =
    let k : g.claim c.lifetimes = search rules in
    wanted_open g.C.Work.left g.C.Work.base g.C.Work.sound c.args.state.now.scope c.args.symbols.now (memory_of c.args.state.now.store) (memory_of c.step_task.new.state.store) c.args.choice
    c.args.self.now c.step_task.new.self c.args.place c.args.key c.requires.inner c.requires.place c.requires.running c.in-Err.error c.in-Err.ensures.stepped c.in-Err.ensures.same.0 c.in-Err.ensures.same.1 (g.met.C.Work c.lifetimes k).grows
