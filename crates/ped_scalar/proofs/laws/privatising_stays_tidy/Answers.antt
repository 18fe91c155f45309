use Rattle.ped_scalar.proofs.TidyKept.{privatised_tidy}
use Rattle.ped_scalar.proofs.laws.privatising_stays_tidy.Goals as goal

pub returns : goal.returns
returns c = λ t s x valid first tidy. privatised_tidy t s x valid first.0 tidy
