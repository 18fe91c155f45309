-- What a machine forgets.
use Rattle.std.proofs.Common.{Bool, inl, refl, sym, ap, subst, ◌∙◌}
use Rattle.ped_store.specs.Keeping.{memory_of}
use Rattle.ped_interleavings.specs.Lefts.{Left}
use Rattle.ped_machine.specs.Naming.{IsForgotten}
use Rattle.ped_machine.specs.Roots.{root_left, IsRight}
use Rattle.ped_machine.proofs.Dropping.{ready_kept}
use Rattle.ped_machine.proofs.machine.Machine.forget.Goals as goal

pub returns-then-self-clause-cells : goal.returns-then-self-clause-cells
returns-then-self-clause-cells c d = inl refl

pub forget-requires : goal.forget-requires
forget-requires c κs =
    let m = c.args.self.now in
    ((refl, tt), (m.symbols.now, (subst (λ (b : Bool). IsRight b m.state.scope m.rest m.symbols.now (memory_of m.state.store)) c.if-self.false c.requires.right).sound))

pub returns-clause-safe : goal.returns-clause-safe
returns-clause-safe c =
    let m = c.args.self.now in
    let table = m.symbols.now in
    let scope = m.state.scope in
    let old = memory_of m.state.store in
    let new = memory_of c.forget.new.store in
    let was = subst (λ (b : Bool). IsRight b scope m.rest table old) c.if-self.false c.requires.right in
    record {
      table = c.requires.table;
      right =
          subst (λ (b : Bool). IsRight b scope c.forget.new.self table new) (sym c.if-self.false)
          (record { ready = ready_kept table scope scope old new c.forget.ensures.kept.kept was.ready (c.forget.ensures.kept.copies was.ready.copies); sound = c.forget.ensures.sound table was.sound });
    }

pub returns-clause-left : goal.returns-clause-left
returns-clause-left c =
    let m = c.args.self.now in
    ap (λ (b : Bool). root_left b m.state.scope c.forget.new.self) c.if-self.false ∙ c.forget.ensures.left ∙ sym (ap (λ (b : Bool). root_left b m.state.scope m.rest) c.if-self.false)

pub returns-clause-cells : goal.returns-clause-cells
returns-clause-cells c =
    let m = c.args.self.now in
    subst (λ (l : Left). IsForgotten l (memory_of m.state.store).cells (memory_of c.forget.new.store).cells) (sym (ap (λ (b : Bool). root_left b m.state.scope m.rest) c.if-self.false)) c.forget.ensures.cells
