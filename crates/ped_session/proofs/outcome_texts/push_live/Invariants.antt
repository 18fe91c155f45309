use Rattle.std.proofs.Common.{◌≡◌, ◌++◌, drop, map}
use Rattle.std.specs.List.{flat_map}
use Rattle.ped_eval.specs.OutcomeViews.{row_view}
use Rattle.ped_session.specs.OutcomeTexts.{live_row}
use Rattle.ped_session.proofs.outcome_texts.push_live.Given as goal

abbrev pub invariant-loop-row : goal.invariant-loop-row
invariant-loop-row l = l.out ++ flat_map live_row (map row_view (drop l.row-index l.rows)) ≡ l.fn.out ++ flat_map live_row (map row_view l.rows)
