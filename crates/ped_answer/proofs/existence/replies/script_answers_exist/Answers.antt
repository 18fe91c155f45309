use Rattle.ped_answer.proofs.ExistenceLaws.Replying.{answers_of_script}
use Rattle.ped_answer.proofs.existence.replies.script_answers_exist.Goals as goal

pub returns : goal.returns
returns c = answers_of_script c.an_interleaving.ensures
