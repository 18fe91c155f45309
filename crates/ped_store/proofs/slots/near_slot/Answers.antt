use Rattle.std.proofs.Common.{sym, ap, ◌∙◌}
use Rattle.ped_base.proofs.NameEquality.{same_is}
use Rattle.ped_store.specs.Slots.{slot_of}
use Rattle.ped_store.proofs.slots.near_slot.Goals as goal

pub returns-then-is_same_name : goal.returns-then-is_same_name
returns-then-is_same_name c =
    let same = same_is c.args.name.now c.in_ok-key.key.now (sym c.is_same_name.ensures ∙ c.if-is_same_name.true) in
    sym (ap (slot_of c.args.slots.now.entries) same ∙ c.in_ok-key.ensures.value)
