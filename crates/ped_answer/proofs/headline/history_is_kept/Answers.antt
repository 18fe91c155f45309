use Rattle.ped_answer.proofs.SourceMoves.{request_history}
use Rattle.ped_answer.proofs.headline.history_is_kept.Goals as goal

pub returns : goal.returns
returns c = request_history
