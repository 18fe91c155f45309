use Rattle.std.proofs.Common.{sym, ap, ◌∙◌, length, Ok, Some}
use Rattle.ped_store.specs.Cells.{Scalar}
use Rattle.ped_store.specs.Slots.{index_of}
use Rattle.ped_store.specs.Keeping.{Kept, memory_of}
use Rattle.ped_store.proofs.Writes.{index_below, put_is, stored_number, laid_in}
use Rattle.ped_store.proofs.store.Store.set_scalar.Goals as goal

pub put_number-requires : goal.put_number-requires
put_number-requires c =
    let m = c.args.self.now in
    index_below m.slots (length m.held) (Scalar c.args.name.now) c.in-Some.index (laid_in _ m c.self.view_is c.self.invariant) (c.in-Some.ensures ∙ ap (λ (k : Kept). index_of k.slots (Scalar c.args.name.now)) c.self.view_is)

pub returns-then-is_storable-clause-ok : goal.returns-then-is_storable-clause-ok
returns-then-is_storable-clause-ok c =
    let m = c.args.self.now in
    let x = Scalar c.args.name.now in
    stored_number x c.args.value.now (memory_of m) (sym c.is_storable.ensures ∙ c.if-is_storable.true)
    ∙ ap Ok (sym (ap memory_of c.put_number.ensures ∙ put_is m x c.in-Some.index (Some c.args.value.now) (laid_in _ m c.self.view_is c.self.invariant) (c.in-Some.ensures ∙ ap (λ (k : Kept). index_of k.slots (Scalar c.args.name.now)) c.self.view_is)))
