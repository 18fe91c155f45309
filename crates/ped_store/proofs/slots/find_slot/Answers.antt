use Rattle.ped_store.proofs.slots.find_slot.Goals as goal

pub returns-in-None : goal.returns-in-None
returns-in-None c = c.hashed_slot.ensures
