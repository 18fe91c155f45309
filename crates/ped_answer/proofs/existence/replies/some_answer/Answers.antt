use Rattle.ped_answer.proofs.ExistenceLaws.Files.{some_answer}
use Rattle.ped_answer.proofs.existence.replies.some_answer.Goals as goal

pub returns : goal.returns
returns c = some_answer c.an_interleaving.ensures
