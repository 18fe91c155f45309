use Rattle.ped_reduce.proofs.MadeAnswers.{no_next}
use Rattle.ped_reduce.proofs.lowering.lowered_with.Goals as goal

pub returns-in-None : goal.returns-in-None
returns-in-None c = no_next c.args.number c.args.names.now c.args.lowered.now c.in-None.ensures
