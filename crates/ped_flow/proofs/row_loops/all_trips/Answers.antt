use Rattle.ped_flow.proofs.EventRows.{if_ok}
use Rattle.ped_flow.proofs.row_loops.all_trips.Goals as goal

pub returns-clause-part : goal.returns-clause-part
returns-clause-part c = if_ok c.tripping-part.result (λ p made n f o k. made n f o k (c.in_ok-iteration.ensures.held n f o k)) c.tripping-part.ensures.part
