use Rattle.ped_loop_runs.proofs.TidyLaws.ExchangedTidy.{exchanged_tidy}
use Rattle.ped_loop_runs.proofs.tidiness.stays_tidy.Goals as goal

pub returns : goal.returns
returns c = exchanged_tidy
