use Rattle.ped_laws.proofs.ConflictLaws.SequenceRuns.{run_in_sequence}
use Rattle.ped_laws.proofs.conflicts.sequence.accesses_in_sequence.Goals as goal

pub returns : goal.returns
returns c = λ t data_bytes a b valid come h k. run_in_sequence t data_bytes a b come h k
