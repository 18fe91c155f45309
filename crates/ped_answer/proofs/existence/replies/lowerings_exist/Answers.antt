use Rattle.ped_answer.proofs.ExistenceLaws.Lowerings.{some_lowered}
use Rattle.ped_answer.proofs.existence.replies.lowerings_exist.Goals as goal

pub returns : goal.returns
returns c = some_lowered
