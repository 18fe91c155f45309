use Rattle.ped_weaves.proofs.WeaveLaws.PutFor.{kept_stands}
use Rattle.ped_weaves.proofs.puttings.kept_part.Goals as goal

pub returns : goal.returns
returns c = kept_stands
