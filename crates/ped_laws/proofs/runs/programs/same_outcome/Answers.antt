use Rattle.ped_laws.proofs.RunLaws.Shown.{outcome_same}
use Rattle.ped_laws.proofs.runs.programs.same_outcome.Goals as goal

pub returns : goal.returns
returns c = λ t u v finish agree. outcome_same t u v agree finish
