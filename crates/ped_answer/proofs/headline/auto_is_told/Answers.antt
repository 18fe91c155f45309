use Rattle.ped_answer.proofs.ToldAuto.{request_auto}
use Rattle.ped_answer.proofs.headline.auto_is_told.Goals as goal

pub returns : goal.returns
returns g c = request_auto c.auto_is_a_script.ensures.read
