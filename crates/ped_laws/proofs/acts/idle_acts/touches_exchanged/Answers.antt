use Rattle.ped_laws.proofs.ActLaws.Changing.{swapped_stays}
use Rattle.ped_laws.proofs.acts.idle_acts.touches_exchanged.Goals as goal

pub returns : goal.returns
returns c = swapped_stays
