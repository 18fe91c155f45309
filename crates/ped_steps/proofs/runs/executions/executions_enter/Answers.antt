use Rattle.ped_steps.proofs.RunLaws.LeftLoops.{execution_entered, loop_entered}
use Rattle.ped_steps.proofs.runs.executions.executions_enter.Goals as goal

pub returns-clause-entry : goal.returns-clause-entry
returns-clause-entry c = execution_entered

pub returns-clause-of_loop : goal.returns-clause-of_loop
returns-clause-of_loop c = loop_entered
