use Rattle.ped_laws.proofs.RunLaws.Meetings.{back_of_run}
use Rattle.ped_laws.proofs.runs.touching.references_conflict.Goals as goal

pub returns : goal.returns
returns c = back_of_run
