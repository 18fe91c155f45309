use Rattle.ped_laws.proofs.RunLaws.Shown.{program_fits, program_run, program_outcome}
use Rattle.ped_laws.proofs.runs.programs.program_runs.Goals as goal

pub returns-clause-fits : goal.returns-clause-fits
returns-clause-fits c = program_fits

pub returns-clause-run : goal.returns-clause-run
returns-clause-run c = program_run

pub returns-clause-outcome : goal.returns-clause-outcome
returns-clause-outcome c = program_outcome
