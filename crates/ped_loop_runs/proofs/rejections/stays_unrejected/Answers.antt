use Rattle.ped_loop_runs.proofs.TidyLaws.UnrejectedTrees.{filled_unrejected, program_unrejected}
use Rattle.ped_loop_runs.proofs.rejections.stays_unrejected.Goals as goal

pub returns-clause-filled : goal.returns-clause-filled
returns-clause-filled c = filled_unrejected

pub returns-clause-replaced : goal.returns-clause-replaced
returns-clause-replaced c = program_unrejected
