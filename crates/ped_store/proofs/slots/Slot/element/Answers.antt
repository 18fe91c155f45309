use Rattle.std.proofs.Common.{arith}
use Rattle.ped_store.proofs.Places.{place_in_below}
use Rattle.ped_store.proofs.slots.Slot.element.Goals as goal

pub overflow_add-result : goal.overflow_add-result
overflow_add-result c =
    let p = place_in_below c.args.self.now.bounds c.args.subscripts.now c.in_ok-place.place c.in_ok-place.ensures in
    omega (arith, p, c.requires)
