use Rattle.ped_loop_runs.proofs.TidyLaws.ExchangedTidy.{exchanged_trusted}
use Rattle.ped_loop_runs.proofs.tidiness.stays_trusted.Goals as goal

pub returns : goal.returns
returns c = exchanged_trusted
