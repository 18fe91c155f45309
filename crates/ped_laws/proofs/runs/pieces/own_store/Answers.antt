use Rattle.std.proofs.Common.{ap}
use Rattle.ped_eval.specs.Runs.{Run}
use Rattle.ped_laws.proofs.RunLaws.Told.{own_run}
use Rattle.ped_laws.proofs.runs.pieces.own_store.Goals as goal

pub returns : goal.returns
returns c = λ piece s told. ap (λ (r : Run). r.ending) (own_run piece told s)
