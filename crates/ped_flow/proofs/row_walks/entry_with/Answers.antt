use Rattle.ped_flow.proofs.EventRows.{if_ok}
use Rattle.ped_flow.proofs.row_walks.entry_with.Goals as goal

pub returns : goal.returns
returns c = if_ok c.new.result (λ e made. (c.in_ok-part.field-0, c.in_ok-part.was, made)) c.new.ensures
