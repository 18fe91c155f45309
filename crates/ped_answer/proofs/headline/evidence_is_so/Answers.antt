use Rattle.ped_answer.proofs.SoEvidence.{request_evidence}
use Rattle.ped_answer.proofs.headline.evidence_is_so.Goals as goal

pub returns : goal.returns
returns c = request_evidence c.disproved_never_meets.ensures
