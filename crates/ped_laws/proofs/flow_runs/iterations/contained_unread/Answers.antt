use Rattle.ped_laws.proofs.FlowRunLaws.TripReads.{contained_unread}
use Rattle.ped_laws.proofs.flow_runs.iterations.contained_unread.Goals as goal

pub returns : goal.returns
returns c t l loop x other contained index p scope f s variable = contained_unread p t l loop x other contained index scope f s variable
