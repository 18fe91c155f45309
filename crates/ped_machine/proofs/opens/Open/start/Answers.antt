-- What is left of a loop of which an iteration has been started, or for which there was no memory.
use Rattle.std.proofs.Common.{rules, refl}
use Rattle.ped_store.specs.Keeping.{memory_of}
use Rattle.ped_machine.proofs.Starting.{kept_open, answered_same, answered_open}
use Rattle.ped_machine.proofs.opens.Open.start.Goals as goal

pub returns-in-Ok-clause-left : goal.returns-in-Ok-clause-left
returns-in-Ok-clause-left g c =
    answered_same g.C.Work.left g.C.Work.base g.C.Work.sound c.args.state.now.scope c.args.self.now c.keep.new.self c.args.place c.in-Ok.task c.requires.waits c.in-Ok.ensures.left c.in-Ok.ensures.inside
    c.keep.result c.keep.ensures.free c.keep.ensures.marked c.keep.ensures.kept c.requires.inner.0 (memory_of c.args.state.now.store).stands c.requires.inner.1.1

pub returns-in-Ok-clause-inner : goal.returns-in-Ok-clause-inner
returns-in-Ok-clause-inner g c table ready o =
    let k : g.claim c.lifetimes = search rules in
    answered_open g.C.Work.left g.C.Work.base g.C.Work.sound c.args.state.now.scope c.args.self.now c.keep.new.self c.args.place c.in-Ok.task c.requires.waits c.in-Ok.ensures.left c.in-Ok.ensures.inside
    c.keep.result c.keep.ensures.free c.keep.ensures.marked c.keep.ensures.kept table (memory_of c.args.state.now.store).stands o
    (memory_of c.start.new.state.store).stands (g.met.C.Work c.lifetimes k).grows c.in-Ok.ensures.room.grown.stands (c.in-Ok.ensures.sound table o.can ready.copies) c.requires.unfinished

pub returns-in-Err-clause-inner : goal.returns-in-Err-clause-inner
returns-in-Err-clause-inner g c table ready o =
    let k : g.claim c.lifetimes = search rules in
    kept_open g.C.Work.left g.C.Work.base g.C.Work.sound c.args.state.now.scope c.args.self.now c.args.self.now (record { d = refl; plan = refl }) refl (λ k. refl) table
    (memory_of c.args.state.now.store).stands (memory_of c.start.new.state.store).stands (g.met.C.Work c.lifetimes k).grows c.in-Err.ensures.room.grown.stands o
