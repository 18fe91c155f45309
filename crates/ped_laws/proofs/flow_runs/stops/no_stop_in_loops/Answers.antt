use Rattle.ped_laws.proofs.FlowRunLaws.Stopping.{fitting_stops, loop_stops}
use Rattle.ped_laws.proofs.flow_runs.stops.no_stop_in_loops.Goals as goal

pub returns-clause-program : goal.returns-clause-program
returns-clause-program c = fitting_stops

pub returns-clause-body : goal.returns-clause-body
returns-clause-body c = loop_stops
