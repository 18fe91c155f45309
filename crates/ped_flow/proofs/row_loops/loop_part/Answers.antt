use Rattle.ped_flow.proofs.EventRows.{if_ok}
use Rattle.ped_flow.proofs.row_loops.loop_part.Goals as goal

pub returns : goal.returns
returns c = if_ok c.entered-part.result (λ p made n f o k. made n _ _ _ (c.in_ok-trips.ensures.part n f o k)) c.entered-part.ensures
