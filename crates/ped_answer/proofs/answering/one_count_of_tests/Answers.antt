use Rattle.ped_answer.proofs.OneCount.{one_count}
use Rattle.ped_answer.proofs.answering.one_count_of_tests.Goals as goal

pub returns : goal.returns
returns c = one_count
