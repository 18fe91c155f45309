use Rattle.ped_laws.proofs.RunLaws.Joined.{replays_nothing, statements_more, statements_ended}
use Rattle.ped_laws.proofs.runs.joining.statements_joined.Goals as goal

pub returns-clause-none : goal.returns-clause-none
returns-clause-none c = λ p n scope. replays_nothing

pub returns-clause-more : goal.returns-clause-more
returns-clause-more c = statements_more

pub returns-clause-ended : goal.returns-clause-ended
returns-clause-ended c = statements_ended
