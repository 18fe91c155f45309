use Rattle.ped_laws.proofs.RunLaws.Meetings.{lines_of_run}
use Rattle.ped_laws.proofs.runs.touching.lines_are_written.Goals as goal

pub returns : goal.returns
returns c = lines_of_run
