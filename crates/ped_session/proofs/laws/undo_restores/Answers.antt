use Rattle.ped_session.proofs.Moves.{restored}
use Rattle.ped_session.proofs.laws.undo_restores.Goals as goal

pub returns : goal.returns
returns c = restored
