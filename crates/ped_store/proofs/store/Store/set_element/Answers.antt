use Rattle.std.proofs.Common.{sym, ap, ◌∙◌, length, Ok, Some}
use Rattle.ped_store.specs.Cells.{Element}
use Rattle.ped_store.specs.Keeping.{Kept, memory_of, bounds_in}
use Rattle.ped_store.specs.Storage.{is_within}
use Rattle.ped_store.specs.Slots.{slot_of, index_of}
use Rattle.ped_store.proofs.Writes.{index_below, put_is, stored_number, laid_in, passed, within_some}
use Rattle.ped_store.proofs.store.Store.set_element.Goals as goal

pub put_number-requires : goal.put_number-requires
put_number-requires c =
    let m = c.args.self.now in
    index_below m.slots (length m.held) (Element c.args.name.now c.args.subscripts.now) c.in-Some.index (laid_in _ m c.self.view_is c.self.invariant) (c.in-Some.ensures ∙ ap (λ (k : Kept). index_of k.slots (Element c.args.name.now c.args.subscripts.now)) c.self.view_is)

pub returns-then-is_storable-clause-ok : goal.returns-then-is_storable-clause-ok
returns-then-is_storable-clause-ok c =
    let m = c.args.self.now in
    let x = Element c.args.name.now c.args.subscripts.now in
    passed (is_within (bounds_in (slot_of m.slots c.args.name.now)) c.args.subscripts.now) _ (within_some m.slots c.args.name.now c.args.subscripts.now c.in-Some.index (c.in-Some.ensures ∙ ap (λ (k : Kept). index_of k.slots (Element c.args.name.now c.args.subscripts.now)) c.self.view_is))
    ∙ stored_number x c.args.value.now (memory_of m) (sym c.is_storable.ensures ∙ c.if-is_storable.true)
    ∙ ap Ok (sym (ap memory_of c.put_number.ensures ∙ put_is m x c.in-Some.index (Some c.args.value.now) (laid_in _ m c.self.view_is c.self.invariant) (c.in-Some.ensures ∙ ap (λ (k : Kept). index_of k.slots (Element c.args.name.now c.args.subscripts.now)) c.self.view_is)))
