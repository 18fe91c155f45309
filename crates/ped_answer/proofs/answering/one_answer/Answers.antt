use Rattle.ped_answer.proofs.OneAnswer
use Rattle.ped_answer.proofs.answering.one_answer.Goals as goal

pub returns : goal.returns
returns c = OneAnswer.one_answer
