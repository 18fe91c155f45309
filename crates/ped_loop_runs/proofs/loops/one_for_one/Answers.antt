use Rattle.ped_loop_runs.proofs.LoopLaws.OneForOne.{one_keeps_on, one_keeps}
use Rattle.ped_loop_runs.proofs.loops.one_for_one.Goals as goal

pub returns-clause-on_data : goal.returns-clause-on_data
returns-clause-on_data c = λ t u l loop h reversed x data_bytes. one_keeps_on c.accesses_are_made.ensures c.accesses_in_sequence.ensures t u l loop h data_bytes reversed x

pub returns-clause-always : goal.returns-clause-always
returns-clause-always c = λ t u l loop h. one_keeps c.accesses_are_made.ensures c.accesses_in_sequence.ensures t u l loop h
