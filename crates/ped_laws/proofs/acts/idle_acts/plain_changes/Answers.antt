use Rattle.ped_laws.proofs.ActLaws.Changing.{plain_changes}
use Rattle.ped_laws.proofs.acts.idle_acts.plain_changes.Goals as goal

pub returns : goal.returns
returns c = plain_changes
