use Rattle.ped_loop_runs.proofs.PastingLaws.StandingParts.{all_stand}
use Rattle.ped_loop_runs.proofs.executions.parts_stand.Goals as goal

pub returns : goal.returns
returns c = all_stand
