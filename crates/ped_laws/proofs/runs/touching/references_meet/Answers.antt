use Rattle.ped_laws.proofs.RunLaws.Meetings.{apart_of_run, outside_of_run}
use Rattle.ped_laws.proofs.runs.touching.references_meet.Goals as goal

pub returns-clause-apart : goal.returns-clause-apart
returns-clause-apart c = apart_of_run

pub returns-clause-outside : goal.returns-clause-outside
returns-clause-outside c = outside_of_run
