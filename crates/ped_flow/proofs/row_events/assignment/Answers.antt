use Rattle.ped_tree.specs.Views.{expr_tree}
use Rattle.ped_flow.specs.Events.{scalars_in}
use Rattle.ped_flow.specs.RowMarks.{names_in, constants_in, read_left}
use Rattle.ped_flow.proofs.Marks.{marked_then}
use Rattle.ped_flow.proofs.EventRows.{if_ok, row_marked, marked_wide, simple_events, assignment_split}
use Rattle.ped_flow.proofs.row_events.assignment.Goals as goal

pub returns : goal.returns
returns c =
    let names = names_in c.args.places.now in
    let cs = constants_in c.args.places.now in
    let reads = marked_then names c.in_ok-reads.reads c.mark_expression.new.row c.mark_read.new.row (scalars_in cs (expr_tree c.args.right.now)) (read_left cs (expr_tree c.args.left.now)) c.mark_expression.ensures c.mark_read.ensures in
    if_ok c.of_events.result
    (λ p h n. h names _ _ _ _ (marked_wide names _ _ _ _ c.in_ok-reads.ensures c.len-width.ensures reads) (row_marked names _ _ _ _ c.in_ok-reads.ensures reads) (row_marked names _ _ _ _ c.in_ok-assigned.ensures c.mark_assigned.ensures)
    (simple_events n _ _ _ (assignment_split cs n (scalars_in cs (expr_tree c.args.right.now)) (expr_tree c.args.left.now))))
    c.of_events.ensures
