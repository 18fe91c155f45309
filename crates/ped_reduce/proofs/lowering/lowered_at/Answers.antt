use Rattle.ped_reduce.proofs.lowering.lowered_at.Goals as goal

pub returns-in-None : goal.returns-in-None
returns-in-None g c = λ r live. c.in-None.ensures live.loop.head live.loop.body live.loop.is
