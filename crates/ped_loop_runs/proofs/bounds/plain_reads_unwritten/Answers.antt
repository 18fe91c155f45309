use Rattle.ped_loop_runs.proofs.LoopLaws.PlainReads.{plain_again, fixed_unwritten}
use Rattle.ped_loop_runs.proofs.bounds.plain_reads_unwritten.Goals as goal

pub returns-clause-again : goal.returns-clause-again
returns-clause-again c = plain_again

pub returns-clause-unwritten : goal.returns-clause-unwritten
returns-clause-unwritten c = fixed_unwritten
