use Rattle.std.proofs.Common.{◌≡◌, ◌++◌, drop, map}
use Rattle.ped_store.specs.Keeping.{memory_of}
use Rattle.ped_eval.specs.Live.{rows_in}
use Rattle.ped_eval.specs.OutcomeViews.{row_view}
use Rattle.ped_eval.proofs.live.live_rows.Given as goal

abbrev pub invariant-loop-name : goal.invariant-loop-name
invariant-loop-name l =
    map row_view l.rows ++ rows_in (memory_of l.store) (drop l.name-index l.name-items) ≡ rows_in (memory_of l.store) l.name-items
