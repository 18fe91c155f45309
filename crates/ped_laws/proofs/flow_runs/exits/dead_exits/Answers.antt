use Rattle.ped_laws.proofs.FlowRunLaws.DeadExits.{unneeded_behind, unwanted_behind}
use Rattle.ped_laws.proofs.flow_runs.exits.dead_exits.Goals as goal

pub returns-clause-unneeded : goal.returns-clause-unneeded
returns-clause-unneeded c p t one unstopping x other s l scope behind exit dead = unneeded_behind p one t x other unstopping s l scope behind exit dead

pub returns-clause-unwanted : goal.returns-clause-unwanted
returns-clause-unwanted c p t one unstopping x other s l scope behind exit dead shown h = unwanted_behind p one t x other unstopping s l scope behind exit dead shown h
