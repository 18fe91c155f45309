use Rattle.ped_laws.proofs.FlowRunLaws.Covered.{covered, all_covered}
use Rattle.ped_laws.proofs.flow_runs.covering.paths_cover_runs.Goals as goal

pub returns-clause-statement : goal.returns-clause-statement
returns-clause-statement c p constants x t n scope s other unstopping = covered p constants x other t n scope s unstopping

pub returns-clause-statements : goal.returns-clause-statements
returns-clause-statements c p constants x ts n scope s other unstopping = all_covered p constants x other ts n scope s unstopping
