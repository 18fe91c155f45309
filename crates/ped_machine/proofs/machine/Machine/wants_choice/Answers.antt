use Rattle.std.proofs.Common.{Bool, sym, ap, subst, ◌∙◌}
use Rattle.ped_store.specs.Keeping.{memory_of}
use Rattle.ped_interleavings.specs.Lefts.{wants_choice}
use Rattle.ped_machine.specs.Roots.{root_left, IsRight}
use Rattle.ped_machine.proofs.machine.Machine.wants_choice.Goals as goal

pub returns : goal.returns
returns c =
    let m = c.args.self.now in
    let right = subst (λ (b : Bool). IsRight b m.state.scope m.rest m.symbols.now (memory_of m.state.store)) c.if-self.false c.requires.right in
    c.wants_choice.ensures m.state.scope m.symbols.now (memory_of m.state.store).stands right.sound
    ∙ sym (ap (λ (b : Bool). wants_choice (root_left b m.state.scope m.rest)) c.if-self.false)
