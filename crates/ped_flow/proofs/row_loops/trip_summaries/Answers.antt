use Rattle.std.proofs.Common.{sym, ◌∙◌}
use Rattle.ped_flow.proofs.EventRows.{if_ok}
use Rattle.ped_flow.proofs.row_loops.trip_summaries.Goals as goal

pub trips-summaries-requires : goal.trips-summaries-requires
trips-summaries-requires c = c.requires.iteration ∙ sym c.in_ok-exit.ensures.width

pub returns-clause-width : goal.returns-clause-width
returns-clause-width c = if_ok c.trips-summaries.result (λ r wide. wide ∙ c.requires.iteration) c.trips-summaries.ensures.width

pub returns-clause-held : goal.returns-clause-held
returns-clause-held c = if_ok c.trips-summaries.result (λ r made n m k x i at h. made i m _ h (c.in_ok-exit.ensures.held n k x i at)) c.trips-summaries.ensures.held
