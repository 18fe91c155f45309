use Rattle.ped_call_runs.proofs.LimitsAlone.{limits_only, storage_first}
use Rattle.ped_call_runs.proofs.laws.expansions_pass_limits_alone.Goals as goal

pub returns-clause-names : goal.returns-clause-names
returns-clause-names c = λ text us m reads fit f is. limits_only text us m reads fit f is

pub returns-clause-storage : goal.returns-clause-storage
returns-clause-storage c = λ text us m reads past. storage_first text us m reads past
