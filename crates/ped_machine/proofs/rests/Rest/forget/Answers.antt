-- What is forgotten in the loop that is open.
use Rattle.std.proofs.Common.{inl, Option, refl, sym, ap, subst, ◌∙◌}
use Rattle.ped_store.specs.Keeping.{memory_of}
use Rattle.ped_interleavings.specs.Lefts.{Left}
use Rattle.ped_machine.specs.declared.opens.Open.{Open}
use Rattle.ped_machine.specs.Naming.{HasForgottenSpent}
use Rattle.ped_machine.specs.Parts.{parts_of, parts_left}
use Rattle.ped_machine.specs.Rests.{opened_left, IfOpened}
use Rattle.ped_machine.proofs.Forgetting.{nothing_but, nothing_round, forgotten_open, but_open, same_open}
use Rattle.ped_machine.proofs.rests.Rest.forget.Goals as goal

pub returns-in-None-clause-cells : goal.returns-in-None-clause-cells
returns-in-None-clause-cells g c d = inl refl

pub returns-in-None-clause-others : goal.returns-in-None-clause-others
returns-in-None-clause-others g c = nothing_but c.args.scope.now (memory_of c.args.store.now)

pub returns-in-None-clause-kept : goal.returns-in-None-clause-kept
returns-in-None-clause-kept g c = nothing_round c.args.scope.now (memory_of c.args.store.now)

pub forget-requires : goal.forget-requires
forget-requires g c κs =
    let stands = (memory_of c.args.store.now).stands in
    let s = c.requires.sound in (
      (refl, tt),
      (s.0, subst (λ (x : Option (Open _)). IfOpened g.C.Work.left g.C.Work.base g.C.Work.sound c.args.scope.now x s.0 stands) c.in-Some.is s.1.inner),
    )

pub returns-in-Some-clause-left : goal.returns-in-Some-clause-left
returns-in-Some-clause-left g c =
    let scope = c.args.scope.now in
    let left = g.C.Work.left in
    let rest = parts_left (parts_of c.args.self.now.parts) scope in
    same_open left scope c.in-Some.open rest c.forget.new.self c.forget.ensures.same c.forget.ensures.left
    ∙ sym (ap (λ (o : Option (Open _)). opened_left left scope o rest) c.in-Some.is)

pub returns-in-Some-clause-cells : goal.returns-in-Some-clause-cells
returns-in-Some-clause-cells g c =
    let scope = c.args.scope.now in
    let left = g.C.Work.left in
    let rest = parts_left (parts_of c.args.self.now.parts) scope in
    let m = memory_of c.args.store.now in
    let new = memory_of c.forget.new.store in
    subst (λ (l : Left). HasForgottenSpent l m new) (sym (ap (λ (o : Option (Open _)). opened_left left scope o rest) c.in-Some.is))
    (forgotten_open left scope c.in-Some.open rest m new c.forget.ensures.cells)

pub returns-in-Some-clause-others : goal.returns-in-Some-clause-others
returns-in-Some-clause-others g c =
    let scope = c.args.scope.now in
    but_open g.C.Work.left scope c.in-Some.open (parts_left (parts_of c.args.self.now.parts) scope) (memory_of c.args.store.now) (memory_of c.forget.new.store) c.forget.ensures.cells

pub returns-in-Some-clause-sound : goal.returns-in-Some-clause-sound
returns-in-Some-clause-sound g c table h =
    let stands = (memory_of c.args.store.now).stands in
    record {
      parts = h.parts;
      inner = c.forget.ensures.inner table (subst (λ (x : Option (Open _)). IfOpened g.C.Work.left g.C.Work.base g.C.Work.sound c.args.scope.now x table stands) c.in-Some.is h.inner);
    }
