use Rattle.ped_loop_runs.proofs.PastingLaws.KeptMeaning.{wanted_suit, apart_suit}
use Rattle.ped_loop_runs.proofs.meaning.suiting_sets.Goals as goal

pub returns-clause-wanted : goal.returns-clause-wanted
returns-clause-wanted c = wanted_suit

pub returns-clause-apart : goal.returns-clause-apart
returns-clause-apart c = apart_suit
