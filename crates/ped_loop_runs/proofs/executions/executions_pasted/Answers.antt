use Rattle.ped_loop_runs.proofs.PastingLaws.PastedRuns.{exchanged}
use Rattle.ped_loop_runs.proofs.executions.executions_pasted.Goals as goal

pub returns : goal.returns
returns c = exchanged
