use Rattle.ped_tree.specs.Views.{expr_tree}
use Rattle.ped_flow.specs.RowMarks.{names_in, constants_in}
use Rattle.ped_flow.proofs.EventRows.{if_ok, row_marked, marked_wide, simple_events, left_split}
use Rattle.ped_flow.proofs.row_events.reading_of.Goals as goal

pub returns : goal.returns
returns c =
    let names = names_in c.args.places.now in
    let cs = constants_in c.args.places.now in
    if_ok c.of_events.result
    (λ p h n. h names _ _ _ _ (marked_wide names _ _ _ _ c.in_ok-reads.ensures c.len-width.ensures c.mark_read.ensures) (row_marked names _ _ _ _ c.in_ok-reads.ensures c.mark_read.ensures) (row_marked names _ _ _ _ c.in_ok-assigned.ensures c.mark_assigned.ensures)
    (simple_events n _ _ _ (left_split cs n (expr_tree c.args.left.now))))
    c.of_events.ensures
