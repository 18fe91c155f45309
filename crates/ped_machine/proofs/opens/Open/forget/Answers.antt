-- What is forgotten of the iteration that did the latest step.
use Rattle.std.proofs.Common.{refl}
use Rattle.ped_store.specs.Keeping.{memory_of}
use Rattle.ped_machine.proofs.Forgetting.{nothing_at, nothing_round, other_latest, latest_at, latest_same}
use Rattle.ped_machine.proofs.opens.Open.forget.Goals as goal

pub returns-in-None-clause-cells : goal.returns-in-None-clause-cells
returns-in-None-clause-cells g c = nothing_at g.C.Work.left c.args.scope.now c.args.self.now (memory_of c.args.store.now)

pub returns-in-None-clause-kept : goal.returns-in-None-clause-kept
returns-in-None-clause-kept g c = nothing_round c.args.scope.now (memory_of c.args.store.now)

pub returns-in-None-clause-inner : goal.returns-in-None-clause-inner
returns-in-None-clause-inner g c table o = other_latest g.C.Work.left g.C.Work.base g.C.Work.sound c.args.scope.now table (memory_of c.args.store.now).stands c.args.self.now _ o

pub returns-else-has_place-clause-cells : goal.returns-else-has_place-clause-cells
returns-else-has_place-clause-cells g c = nothing_at g.C.Work.left c.args.scope.now c.args.self.now (memory_of c.args.store.now)

pub returns-else-has_place-clause-kept : goal.returns-else-has_place-clause-kept
returns-else-has_place-clause-kept g c = nothing_round c.args.scope.now (memory_of c.args.store.now)

pub returns-else-has_place-clause-inner : goal.returns-else-has_place-clause-inner
returns-else-has_place-clause-inner g c table o = other_latest g.C.Work.left g.C.Work.base g.C.Work.sound c.args.scope.now table (memory_of c.args.store.now).stands c.args.self.now _ o

pub forget_at-requires : goal.forget_at-requires
forget_at-requires g c κs =
    let i = c.requires.inner in
    ((refl, tt), (c.has_place.ensures (c.if-has_place.true), (i.0, other_latest g.C.Work.left g.C.Work.base g.C.Work.sound c.args.scope.now i.0 (memory_of c.args.store.now).stands c.args.self.now _ i.1)))

pub returns-then-has_place-clause-same : goal.returns-then-has_place-clause-same
returns-then-has_place-clause-same g c = latest_same g.C.Work.left g.C.Work.base g.C.Work.sound c.args.scope.now c.args.self.now c.forget_at.new.self _ c.forget_at.ensures.same

pub returns-then-has_place-clause-cells : goal.returns-then-has_place-clause-cells
returns-then-has_place-clause-cells g c = latest_at g.C.Work.left g.C.Work.base g.C.Work.sound c.args.scope.now c.args.self.now _ (memory_of c.args.store.now) (memory_of c.forget_at.new.store) c.forget_at.ensures.cells

pub returns-then-has_place-clause-inner : goal.returns-then-has_place-clause-inner
returns-then-has_place-clause-inner g c table o =
    c.forget_at.ensures.inner table (other_latest g.C.Work.left g.C.Work.base g.C.Work.sound c.args.scope.now table (memory_of c.args.store.now).stands c.args.self.now _ o)
