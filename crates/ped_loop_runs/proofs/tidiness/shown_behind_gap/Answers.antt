use Rattle.ped_loop_runs.proofs.TidyLaws.ExchangedShown.{staying_shown, new_shown}
use Rattle.ped_loop_runs.proofs.tidiness.shown_behind_gap.Goals as goal

pub returns-clause-staying : goal.returns-clause-staying
returns-clause-staying c = staying_shown

pub returns-clause-new : goal.returns-clause-new
returns-clause-new c = new_shown
