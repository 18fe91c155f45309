use Rattle.ped_laws.proofs.RunLaws.Joined.{acts_are, finish_is}
use Rattle.ped_laws.proofs.runs.pieces.one_run.Goals as goal

pub returns-clause-acts : goal.returns-clause-acts
returns-clause-acts c = acts_are

pub returns-clause-finish : goal.returns-clause-finish
returns-clause-finish c = finish_is
