use Rattle.ped_steps.proofs.RunLaws.OwnBounds.{run_bounds, all_bounds}
use Rattle.ped_steps.proofs.runs.bounds.own_bounds.Goals as goal

pub returns-clause-statement : goal.returns-clause-statement
returns-clause-statement c = run_bounds

pub returns-clause-statements : goal.returns-clause-statements
returns-clause-statements c = all_bounds
