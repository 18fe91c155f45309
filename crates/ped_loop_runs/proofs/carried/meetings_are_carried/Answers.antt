use Rattle.ped_loop_runs.proofs.LoopLaws.Carrying.{carried_inside, independent_inside}
use Rattle.ped_loop_runs.proofs.carried.meetings_are_carried.Goals as goal

pub returns-clause-carried : goal.returns-clause-carried
returns-clause-carried c = λ t first a b source sink m ps edges among are. carried_inside t first a b source sink m ps edges among are

pub returns-clause-independent : goal.returns-clause-independent
returns-clause-independent c = λ t first a b source sink m ps edges among are. independent_inside t first a b source sink m ps edges among are
