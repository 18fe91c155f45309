use Rattle.ped_laws.proofs.RunLaws.Joined.{replays_nothing, parallel_more, parallel_ended}
use Rattle.ped_laws.proofs.runs.joining.parallel_turns_joined.Goals as goal

pub returns-clause-none : goal.returns-clause-none
returns-clause-none c = λ k e body. replays_nothing

pub returns-clause-more : goal.returns-clause-more
returns-clause-more c = parallel_more

pub returns-clause-ended : goal.returns-clause-ended
returns-clause-ended c = parallel_ended
