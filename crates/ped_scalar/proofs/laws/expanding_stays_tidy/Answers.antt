use Rattle.ped_scalar.proofs.TidyKept.{expanded_tidy}
use Rattle.ped_scalar.proofs.laws.expanding_stays_tidy.Goals as goal

pub returns : goal.returns
returns c = λ t new s l x valid first made tidy. expanded_tidy t new s l x valid first.0 made tidy
