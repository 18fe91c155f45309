use Rattle.ped_laws.proofs.RunLaws.Meetings.{touches_of_run, accesses_of_run}
use Rattle.ped_laws.proofs.runs.touching.own_stores.Goals as goal

pub returns-clause-touches : goal.returns-clause-touches
returns-clause-touches c = touches_of_run

pub returns-clause-accesses : goal.returns-clause-accesses
returns-clause-accesses c = accesses_of_run
