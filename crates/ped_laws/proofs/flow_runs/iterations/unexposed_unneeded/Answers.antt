use Rattle.ped_laws.proofs.FlowRunLaws.TripReads.{unexposed_unneeded}
use Rattle.ped_laws.proofs.flow_runs.iterations.unexposed_unneeded.Goals as goal

pub returns : goal.returns
returns c t l loop x other unstopping unexposed p scope seen m k s ends = unexposed_unneeded p t l loop x other unstopping unexposed scope seen m k s ends
