use Rattle.ped_certificates.proofs.Closing.{refuted}
use Rattle.ped_certificates.proofs.laws.nothing_meets.Goals as goal

pub returns : goal.returns
returns c = refuted
