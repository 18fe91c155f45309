use Rattle.ped_laws.proofs.RunLaws.Placing.{kinds_of_run}
use Rattle.ped_laws.proofs.runs.places.one_kind.Goals as goal

pub returns : goal.returns
returns c = kinds_of_run
