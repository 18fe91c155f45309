use Rattle.ped_session.proofs.AutoSteps.{auto_steps, accepts_all}
use Rattle.ped_session.proofs.laws.auto_replays.Goals as goal

pub returns : goal.returns
returns c = λ s last report tests h. accepts_all report.accepted s last tests (auto_steps s last report tests h)
