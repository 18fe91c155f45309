use Rattle.ped_laws.proofs.PlainLaws.Standing.{stand_during}
use Rattle.ped_laws.proofs.plain.bounds.values_stand.Goals as goal

pub returns : goal.returns
returns c = λ p t one unstopping named s l front entry told scope place u during. stand_during p t one unstopping named s l front entry told scope place u during
