-- What is forgotten of the iteration at a place.
use Rattle.std.proofs.Common.{◌+◌, rules, refl, sym, ◌∙◌, arith}
use Rattle.ped_store.specs.Keeping.{memory_of}
use Rattle.ped_interleavings.specs.ped_eval.specs.Loops.{frame}
use Rattle.ped_machine.specs.Opens.{open_entered}
use Rattle.ped_machine.proofs.Forgetting.{nothing_at, nothing_round, done_at, done_open, round_by, inside_at, inside_round, inside_left, inside_open}
use Rattle.ped_machine.proofs.opens.Open.forget_at.Goals as goal

pub returns-in-Waits-clause-cells : goal.returns-in-Waits-clause-cells
returns-in-Waits-clause-cells g c = nothing_at g.C.Work.left c.args.scope.now c.args.self.now (memory_of c.args.store.now)

pub returns-in-Waits-clause-kept : goal.returns-in-Waits-clause-kept
returns-in-Waits-clause-kept g c = nothing_round c.args.scope.now (memory_of c.args.store.now)

pub forget_inside-requires : goal.forget_inside-requires
forget_inside-requires g c κs =
    let i = c.requires.inner in
    ((refl, tt), (i.0, _, i.1.running c.args.place c.in-Running.key c.requires.place (sym c.at.ensures ∙ c.in-Running.is)))

pub returns-in-Running-clause-left : goal.returns-in-Running-clause-left
returns-in-Running-clause-left g c =
    let i = c.requires.inner in
    let f = c.forget_inside.ensures in
    inside_left g.C.Work.left g.C.Work.base g.C.Work.sound c.args.scope.now i.0 (memory_of c.args.store.now) (memory_of c.forget_inside.new.store) c.args.self.now c.forget_inside.new.self c.args.place c.in-Running.key i.1 c.requires.place
    (sym c.at.ensures ∙ c.in-Running.is) f.forgotten f.same.0 f.same.1

pub returns-in-Running-clause-cells : goal.returns-in-Running-clause-cells
returns-in-Running-clause-cells g c =
    let i = c.requires.inner in
    let f = c.forget_inside.ensures in
    inside_at g.C.Work.left g.C.Work.base g.C.Work.sound c.args.scope.now i.0 (memory_of c.args.store.now) (memory_of c.forget_inside.new.store) c.args.self.now c.forget_inside.new.self c.args.place c.in-Running.key i.1 c.requires.place
    (sym c.at.ensures ∙ c.in-Running.is) f.forgotten f.same.0 f.same.1

pub returns-in-Running-clause-kept : goal.returns-in-Running-clause-kept
returns-in-Running-clause-kept g c =
    let i = c.requires.inner in
    let f = c.forget_inside.ensures in
    inside_round g.C.Work.left g.C.Work.base g.C.Work.sound c.args.scope.now i.0 (memory_of c.args.store.now) (memory_of c.forget_inside.new.store) c.args.self.now c.forget_inside.new.self c.args.place c.in-Running.key i.1 c.requires.place
    (sym c.at.ensures ∙ c.in-Running.is) f.forgotten f.same.0 f.same.1

pub returns-in-Running-clause-inner : goal.returns-in-Running-clause-inner
returns-in-Running-clause-inner g c table o =
    let k : g.claim c.lifetimes = search rules in
    let f = c.forget_inside.ensures in
    inside_open g.C.Work.left g.C.Work.base g.C.Work.sound c.args.scope.now table (memory_of c.args.store.now) (memory_of c.forget_inside.new.store) c.args.self.now c.forget_inside.new.self c.args.place c.in-Running.key o c.requires.place
    (sym c.at.ensures ∙ c.in-Running.is) f.forgotten f.same.0 f.same.1 (g.met.C.Work c.lifetimes k).grows

pub forget_turn-requires-clause-few : goal.forget_turn-requires-clause-few
forget_turn-requires-clause-few g c =
    let i = c.requires.inner.1 in
    let deep = i.can.nested in
    omega (arith, deep)

pub returns-in-Done-clause-cells : goal.returns-in-Done-clause-cells
returns-in-Done-clause-cells g c =
    done_at g.C.Work.left g.C.Work.base g.C.Work.sound c.args.scope.now c.args.self.now c.args.place (memory_of c.args.store.now) (memory_of c.forget_turn.new.store) c.requires.place (sym c.at.ensures ∙ c.in-Done.is) c.forget_turn.ensures.cells

pub returns-in-Done-clause-kept : goal.returns-in-Done-clause-kept
returns-in-Done-clause-kept g c =
    round_by (frame (open_entered c.args.self.now) (c.args.place + 1)) c.args.scope.now (memory_of c.args.store.now) (memory_of c.forget_turn.new.store) c.forget_turn.ensures.kept

pub returns-in-Done-clause-inner : goal.returns-in-Done-clause-inner
returns-in-Done-clause-inner g c table o =
    let k : g.claim c.lifetimes = search rules in
    done_open g.C.Work.left g.C.Work.base g.C.Work.sound c.args.scope.now (g.met.C.Work c.lifetimes k).grows table c.args.self.now c.args.place (memory_of c.args.store.now) (memory_of c.forget_turn.new.store) (sym c.at.ensures ∙ c.in-Done.is) c.forget_turn.ensures.kept o
