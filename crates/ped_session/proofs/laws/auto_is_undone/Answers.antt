use Rattle.ped_session.proofs.AutoSteps.{auto_steps}
use Rattle.ped_session.proofs.AutoUndone.{all_undone}
use Rattle.ped_session.proofs.laws.auto_is_undone.Goals as goal

pub returns : goal.returns
returns c = λ s last report tests d h. all_undone report.accepted d s last tests (auto_steps s last report tests h)
