use Rattle.ped_answer.proofs.ExistenceLaws.Counts.{some_tests}
use Rattle.ped_answer.proofs.existence.replies.some_tests.Goals as goal

pub returns : goal.returns
returns c = some_tests c.an_interleaving.ensures
