use Rattle.std.proofs.Common.{ap, ◌∙◌, length}
use Rattle.ped_store.specs.Cells.{Scalar}
use Rattle.ped_store.specs.Slots.{index_of}
use Rattle.ped_store.specs.Keeping.{Kept, memory_of}
use Rattle.ped_store.proofs.Writes.{index_below, put_is, laid_in}
use Rattle.ped_store.proofs.store.Store.put_scalar.Goals as goal

pub put-requires : goal.put-requires
put-requires c =
    let m = c.args.self.now in
    index_below m.slots (length m.held) (Scalar c.args.name.now) c.in-Some.index (laid_in _ m c.self.view_is c.self.invariant)
    (c.in-Some.ensures ∙ ap (λ (k : Kept). index_of k.slots (Scalar c.args.name.now)) c.self.view_is)

pub returns-in-Some : goal.returns-in-Some
returns-in-Some c =
    let m = c.args.self.now in
    ap memory_of c.put.ensures
    ∙ put_is m (Scalar c.args.name.now) c.in-Some.index c.args.content (laid_in _ m c.self.view_is c.self.invariant)
    (c.in-Some.ensures ∙ ap (λ (k : Kept). index_of k.slots (Scalar c.args.name.now)) c.self.view_is)
