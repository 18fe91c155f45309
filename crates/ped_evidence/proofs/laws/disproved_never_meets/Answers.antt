use Rattle.ped_evidence.proofs.Disproving.{never_meets}
use Rattle.ped_evidence.proofs.laws.disproved_never_meets.Goals as goal

pub returns : goal.returns
returns c = λ t evidence e v valid. never_meets c.accesses_are_made.ensures c.accesses_in_sequence.ensures c.nothing_meets.ensures t e v valid evidence
