use Rattle.ped_laws.proofs.RunLaws.Joined.{statements_apart, statements_alone}
use Rattle.ped_laws.proofs.runs.parting.statements_parted.Goals as goal

pub returns-clause-more : goal.returns-clause-more
returns-clause-more c = statements_apart

pub returns-clause-ended : goal.returns-clause-ended
returns-clause-ended c = statements_alone
