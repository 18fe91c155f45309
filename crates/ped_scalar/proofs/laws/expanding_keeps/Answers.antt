use Rattle.ped_scalar.proofs.KeptByExpanding.{expanding_keeps_it}
use Rattle.ped_scalar.proofs.laws.expanding_keeps.Goals as goal

pub returns : goal.returns
returns c = λ t new s l x valid tidy first made. expanding_keeps_it t s x l valid first.0 tidy new made
