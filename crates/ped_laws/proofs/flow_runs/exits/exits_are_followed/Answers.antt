use Rattle.ped_laws.proofs.FlowRunLaws.DeadExits.{exit_followed}
use Rattle.ped_laws.proofs.flow_runs.exits.exits_are_followed.Goals as goal

pub returns : goal.returns
returns c p t one unstopping x other s l scope behind exit = exit_followed p one t x other unstopping s l scope behind exit
