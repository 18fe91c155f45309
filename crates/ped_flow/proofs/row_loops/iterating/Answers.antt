use Rattle.std.proofs.Common.{sym, ◌∙◌}
use Rattle.ped_flow.proofs.EventRows.{if_ok}
use Rattle.ped_flow.proofs.row_loops.iterating.Goals as goal

pub followed-requires : goal.followed-requires
followed-requires c = c.in_ok-start.ensures.width ∙ sym c.requires

pub returns-clause-width : goal.returns-clause-width
returns-clause-width c = if_ok c.followed.result (λ r wide. wide ∙ c.in_ok-start.ensures.width) c.followed.ensures.width

pub returns-clause-held : goal.returns-clause-held
returns-clause-held c = if_ok c.followed.result (λ r made n f o k x i at. made i _ (f x) (c.in_ok-start.ensures.held n k.indices x i at) (k.summaries x i at)) c.followed.ensures.held
