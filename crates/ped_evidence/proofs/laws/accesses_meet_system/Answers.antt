use Rattle.ped_evidence.proofs.AccessesMeet.{accesses_meet}
use Rattle.ped_evidence.proofs.laws.accesses_meet_system.Goals as goal

pub returns : goal.returns
returns c = accesses_meet
