use Rattle.ped_loop_runs.proofs.PastingLaws.OneExecution.{one_place, one_execution}
use Rattle.ped_loop_runs.proofs.executions.executed_once.Goals as goal

pub returns-clause-turns : goal.returns-clause-turns
returns-clause-turns c = one_place

pub returns-clause-place : goal.returns-clause-place
returns-clause-place c = one_execution
