use Rattle.std.proofs.Common.{ℤ, List, Option, take, drop, ap, ◌∙◌, length, arith}
use Rattle.std.proofs.lemmas.Result.{IfOk-weaker}
use Rattle.ped_store.specs.Slots.{slot_of, slot_count}
use Rattle.ped_store.specs.Keeping.{Kept}
use Rattle.ped_store.proofs.LaidSlots.{laid_within}
use Rattle.ped_store.proofs.Writes.{laid_in}
use Rattle.ped_store.proofs.ElementOrder.{values_are}
use Rattle.ped_store.proofs.store.Store.values.Goals as goal

pub held_in-requires : goal.held_in-requires
held_in-requires c =
    let w = laid_within c.self.inside.slots.entries 0 (length c.self.inside.held.items) c.args.name.now c.in-Some.slot.now c.self.invariant c.in-Some.ensures in
    omega (arith, w.1, c.deref.ensures.value)

pub returns-in-Some : goal.returns-in-Some
returns-in-Some c =
    let m = c.args.self.now in
    let is = c.in-Some.ensures ∙ ap (λ (k : Kept). slot_of k.slots c.args.name.now) c.self.view_is in
    let w = laid_within m.slots 0 (length m.held) c.args.name.now c.in-Some.slot.now (laid_in _ m c.self.view_is c.self.invariant) is in
    let held = c.held_in.ensures.held ∙ ap (λ (held : List (Option ℤ)). take (slot_count c.in-Some.slot.now) (drop c.in-Some.slot.now.start held)) (c.deref.ensures.value ∙ ap (λ (k : Kept). k.held) c.self.view_is) in
    IfOk-weaker c.copied_values.result _ _ (λ v p. p ∙ held ∙ values_are m c.args.name.now c.in-Some.slot.now is w.1 c.held_in.ensures.same_rank) c.copied_values.ensures
