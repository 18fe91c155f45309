use Rattle.ped_laws.proofs.ActLaws.Exchanging.{same_stands}
use Rattle.ped_laws.proofs.acts.exchanges.equal_piece.Goals as goal

pub returns : goal.returns
returns c = same_stands
