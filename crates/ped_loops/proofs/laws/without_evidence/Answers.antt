use Rattle.ped_loops.proofs.WithoutEvidence.{parallel_without, reverse_without, interchange_without}
use Rattle.ped_loops.proofs.laws.without_evidence.Goals as goal

pub returns-clause-parallel : goal.returns-clause-parallel
returns-clause-parallel c = parallel_without

pub returns-clause-reversal : goal.returns-clause-reversal
returns-clause-reversal c = reverse_without

pub returns-clause-interchange : goal.returns-clause-interchange
returns-clause-interchange c = interchange_without
