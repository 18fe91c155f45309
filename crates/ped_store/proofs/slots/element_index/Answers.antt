use Rattle.std.proofs.Common.{arith}
use Rattle.ped_store.proofs.LaidSlots.{laid_within}
use Rattle.ped_store.proofs.slots.element_index.Goals as goal

pub element-requires : goal.element-requires
element-requires c =
    let p = laid_within c.args.slots.now.entries 0 c.requires.0 c.args.name.now c.in_ok-find_slot.field-0.now c.requires.1 c.in_ok-find_slot.ensures in
    omega (arith, p.1, c.requires.2)
