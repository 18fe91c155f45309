use Rattle.ped_weaves.proofs.WeaveLaws.PutFor.{put_stands}
use Rattle.ped_weaves.proofs.puttings.act_for_act.Goals as goal

pub returns : goal.returns
returns c = put_stands
