use Rattle.ped_laws.proofs.RunLaws.Joined.{parallel_apart, parallel_alone}
use Rattle.ped_laws.proofs.runs.parting.parallel_turns_parted.Goals as goal

pub returns-clause-more : goal.returns-clause-more
returns-clause-more c = parallel_apart

pub returns-clause-ended : goal.returns-clause-ended
returns-clause-ended c = parallel_alone
