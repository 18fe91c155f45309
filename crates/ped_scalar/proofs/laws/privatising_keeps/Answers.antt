use Rattle.ped_scalar.proofs.KeptByPrivatising.{privatising_keeps_it}
use Rattle.ped_scalar.proofs.laws.privatising_keeps.Goals as goal

pub returns : goal.returns
returns c = λ t s x valid first. privatising_keeps_it t s x valid first.0
