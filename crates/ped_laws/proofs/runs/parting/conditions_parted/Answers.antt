use Rattle.ped_laws.proofs.RunLaws.Joined.{part_apart, part_fails}
use Rattle.ped_laws.proofs.runs.parting.conditions_parted.Goals as goal

pub returns-clause-part : goal.returns-clause-part
returns-clause-part c = part_apart

pub returns-clause-fault : goal.returns-clause-fault
returns-clause-fault c = part_fails
