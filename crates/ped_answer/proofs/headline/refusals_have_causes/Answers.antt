use Rattle.ped_answer.proofs.ToldCauses.{request_causes}
use Rattle.ped_answer.proofs.headline.refusals_have_causes.Goals as goal

pub returns : goal.returns
returns c = request_causes
