use Rattle.ped_session.proofs.Moves.{redone, undone}
use Rattle.ped_session.proofs.laws.moves_restore_each_other.Goals as goal

pub returns : goal.returns
returns c = record { redone = redone; undone = undone }
