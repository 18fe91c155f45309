use Rattle.ped_flow.specs.Summaries.{summary_trips}
use Rattle.ped_flow.proofs.EventRows.{if_ok}
use Rattle.ped_flow.proofs.row_summaries.RowSummary.trips.Goals as goal

pub returns-clause-held : goal.returns-clause-held
returns-clause-held c = if_ok c.followed.result (λ r made i a b h k. made i (summary_trips a) b (c.in_ok-trips.ensures.held i a h) k) c.followed.ensures.held
