use Rattle.ped_steps.proofs.RunLaws.LeftLoops.{execution_left}
use Rattle.ped_steps.proofs.runs.executions.executions_leave.Goals as goal

pub returns : goal.returns
returns c = execution_left
