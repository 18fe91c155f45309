use Rattle.ped_steps.proofs.RunLaws.ExchangedRuns.{all_in}
use Rattle.ped_steps.proofs.RunLaws.Replayed.{replays_in}
use Rattle.ped_steps.proofs.runs.exchanging.cells_exchanged.Goals as goal

pub returns-clause-runs : goal.returns-clause-runs
returns-clause-runs c = λ name p ts n scope other ex same s. all_in name ex p ts n scope other same s

pub returns-clause-replays : goal.returns-clause-replays
returns-clause-replays c = replays_in
