use Rattle.ped_loop_runs.proofs.PastingLaws.ExecutedDuring.{inside_outermost, whole_outermost}
use Rattle.ped_loop_runs.proofs.places.executed_during.Goals as goal

pub returns-clause-inside : goal.returns-clause-inside
returns-clause-inside c = inside_outermost

pub returns-clause-whole : goal.returns-clause-whole
returns-clause-whole c = whole_outermost
