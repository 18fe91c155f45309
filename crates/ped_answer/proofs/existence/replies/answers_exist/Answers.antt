use Rattle.ped_answer.proofs.ExistenceLaws.Replying.{answers_of}
use Rattle.ped_answer.proofs.existence.replies.answers_exist.Goals as goal

pub returns : goal.returns
returns c = answers_of c.an_interleaving.ensures
