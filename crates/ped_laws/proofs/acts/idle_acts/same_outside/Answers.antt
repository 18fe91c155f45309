use Rattle.ped_laws.proofs.ActLaws.Changing.{same_stays}
use Rattle.ped_laws.proofs.acts.idle_acts.same_outside.Goals as goal

pub returns : goal.returns
returns c = same_stays
