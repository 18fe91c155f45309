use Rattle.ped_rows.proofs.RowLaws.ProvenRows.{proven_before_exit, proven_before_end}
use Rattle.ped_rows.proofs.occurring.proven_dependences_occur.Goals as goal

pub returns-clause-left : goal.returns-clause-left
returns-clause-left c = λ t data_bytes edges e vector valid. proven_before_exit c.accesses_are_made.ensures c.accesses_in_sequence.ensures t data_bytes valid edges e vector

pub returns-clause-ended : goal.returns-clause-ended
returns-clause-ended c = λ t data_bytes edges e vector s valid. proven_before_end c.accesses_are_made.ensures c.accesses_in_sequence.ensures t data_bytes valid edges e vector s
