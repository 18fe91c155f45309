use Rattle.ped_laws.proofs.ActLaws.RaceFree.{race_free_acts}
use Rattle.ped_laws.proofs.acts.races.race_free_acts.Goals as goal

pub returns : goal.returns
returns c = race_free_acts
