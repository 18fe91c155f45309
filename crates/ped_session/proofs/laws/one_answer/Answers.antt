use Rattle.ped_session.proofs.OneAnswer.{one_all}
use Rattle.ped_session.proofs.laws.one_answer.Goals as goal

pub returns : goal.returns
returns c = one_all
