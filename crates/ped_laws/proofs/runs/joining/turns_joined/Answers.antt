use Rattle.ped_laws.proofs.RunLaws.Joined.{replays_nothing, turns_more, turns_ended}
use Rattle.ped_laws.proofs.runs.joining.turns_joined.Goals as goal

pub returns-clause-none : goal.returns-clause-none
returns-clause-none c = λ k e scope at body. replays_nothing

pub returns-clause-more : goal.returns-clause-more
returns-clause-more c = turns_more

pub returns-clause-ended : goal.returns-clause-ended
returns-clause-ended c = turns_ended
