use Rattle.ped_weaves.proofs.WeaveLaws.Woven.{woven_stands}
use Rattle.ped_weaves.proofs.weaves.weaving.Goals as goal

pub returns : goal.returns
returns c = woven_stands
