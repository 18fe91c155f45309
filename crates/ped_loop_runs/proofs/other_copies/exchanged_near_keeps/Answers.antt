use Rattle.ped_loop_runs.proofs.PastingLaws.KeptMeaning.{exchange_near_keeps}
use Rattle.ped_loop_runs.proofs.other_copies.exchanged_near_keeps.Goals as goal

pub returns : goal.returns
returns c = λ names apart gap old new t u. exchange_near_keeps gap old new t u names apart
