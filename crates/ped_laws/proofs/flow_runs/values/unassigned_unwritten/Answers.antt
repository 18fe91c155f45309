use Rattle.ped_laws.proofs.FlowRunLaws.Writing.{unassigned, all_unassigned}
use Rattle.ped_laws.proofs.flow_runs.values.unassigned_unwritten.Goals as goal

pub returns-clause-statement : goal.returns-clause-statement
returns-clause-statement c = unassigned

pub returns-clause-statements : goal.returns-clause-statements
returns-clause-statements c = all_unassigned
