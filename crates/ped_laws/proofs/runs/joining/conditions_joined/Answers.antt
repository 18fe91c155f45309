use Rattle.ped_laws.proofs.RunLaws.Joined.{condition_part, condition_fault}
use Rattle.ped_laws.proofs.runs.joining.conditions_joined.Goals as goal

pub returns-clause-part : goal.returns-clause-part
returns-clause-part c = condition_part

pub returns-clause-fault : goal.returns-clause-fault
returns-clause-fault c = condition_fault
