use Rattle.ped_laws.proofs.ActLaws.RaceFree.{apart_flip}
use Rattle.ped_laws.proofs.acts.races.apart_either_way.Goals as goal

pub returns : goal.returns
returns c = apart_flip
