use Rattle.ped_laws.proofs.FlowRunLaws.Entering.{entry_covered, number_before}
use Rattle.ped_laws.proofs.flow_runs.values.assigned_before.Goals as goal

pub returns-clause-path : goal.returns-clause-path
returns-clause-path c p t one unstopping x other s l front e = entry_covered p one t x other unstopping s l front e

pub returns-clause-number : goal.returns-clause-number
returns-clause-number c p t one unstopping x other s l front e before = number_before p one t x other unstopping s l front e before
