use Rattle.ped_laws.proofs.RunLaws.Joined.{turns_apart, turns_alone}
use Rattle.ped_laws.proofs.runs.parting.turns_parted.Goals as goal

pub returns-clause-more : goal.returns-clause-more
returns-clause-more c = turns_apart

pub returns-clause-ended : goal.returns-clause-ended
returns-clause-ended c = turns_alone
