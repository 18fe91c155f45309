use Rattle.ped_laws.proofs.FlowRunLaws.Holding.{number_through}
use Rattle.ped_laws.proofs.flow_runs.values.assigned_through.Goals as goal

pub returns : goal.returns
returns c = number_through
