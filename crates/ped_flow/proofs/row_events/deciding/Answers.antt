use Rattle.std.proofs.Common.{[]}
use Rattle.ped_flow.specs.RowMarks.{names_in}
use Rattle.ped_flow.proofs.EventRows.{if_ok, row_marked, row_empty, marked_wide, simple_events, reads_split}
use Rattle.ped_flow.proofs.row_events.deciding.Goals as goal

pub returns : goal.returns
returns c =
    let names = names_in c.args.places.now in
    if_ok c.of_events.result
    (λ p h n. h names _ _ _ _ (marked_wide names _ _ _ _ c.in_ok-reads.ensures c.len-width.ensures c.mark_condition.ensures) (row_marked names _ _ _ _ c.in_ok-reads.ensures c.mark_condition.ensures) (row_empty names _ _ c.in_ok-assigned.ensures) (simple_events n _ [] _ (reads_split n _)))
    c.of_events.ensures
