use Rattle.ped_laws.proofs.RunLaws.Sight.{value_told, truth_told, target_told, limits_told}
use Rattle.ped_laws.proofs.runs.evaluations.seen_values.Goals as goal

pub returns-clause-value : goal.returns-clause-value
returns-clause-value c = value_told

pub returns-clause-truth : goal.returns-clause-truth
returns-clause-truth c = truth_told

pub returns-clause-target : goal.returns-clause-target
returns-clause-target c = target_told

pub returns-clause-limits : goal.returns-clause-limits
returns-clause-limits c = limits_told
