use Rattle.ped_loop_runs.proofs.PastingLaws.PastedRuns.{exchanged_near}
use Rattle.ped_loop_runs.proofs.other_copies.executions_pasted_near.Goals as goal

pub returns : goal.returns
returns c = exchanged_near
