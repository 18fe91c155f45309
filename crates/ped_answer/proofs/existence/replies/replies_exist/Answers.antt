use Rattle.ped_answer.proofs.ExistenceLaws.Replying.{reply_exists}
use Rattle.ped_answer.proofs.existence.replies.replies_exist.Goals as goal

pub returns : goal.returns
returns c = λ command other data_bytes s all. reply_exists c.an_interleaving.ensures s all command other data_bytes
