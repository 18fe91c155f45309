use Rattle.std.proofs.Common.{◌++◌, map, ap, ◌∙◌, drop, ◌+◌}
use Rattle.ped_store.specs.Keeping.{memory_of}
use Rattle.ped_eval.specs.Live.{rows_in}
use Rattle.ped_eval.specs.OutcomeViews.{row_view}
use Rattle.ped_eval.proofs.RowsByNames.{rows_next}
use Rattle.ped_eval.proofs.live.live_rows.Goals as goal

pub loop-name-preserved : goal.loop-name-preserved
loop-name-preserved c =
    ap (λ rows. map row_view rows ++ rows_in (memory_of c.args.store.now) (drop (c.loop-name.name-index + 1) c.as_slice-name-items.result.now)) c.in_ok-push.ensures.ok
    ∙ rows_next (memory_of c.args.store.now) c.loop-name.rows c.in_ok-row.row c.as_slice-name-items.result.now c.loop-name.name-index c.name-item.result c.loop-name-test.true c.name-item.is c.in_ok-row.ensures c.loop-name.invariant
