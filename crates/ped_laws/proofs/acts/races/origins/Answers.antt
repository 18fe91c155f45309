use Rattle.ped_laws.proofs.ActLaws.RaceFree.{origins_race_free}
use Rattle.ped_laws.proofs.acts.races.origins.Goals as goal

pub returns : goal.returns
returns c = origins_race_free
