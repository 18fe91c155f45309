use Rattle.std.proofs.Common.{refl, [], ◌∷◌, ◌++◌}
use Rattle.ped_tree.specs.Views.{expr_tree}
use Rattle.ped_flow.specs.Events.{scalars_in}
use Rattle.ped_flow.specs.RowMarks.{names_in, constants_in}
use Rattle.ped_flow.proofs.Marks.{marked_then}
use Rattle.ped_flow.proofs.EventRows.{if_ok, row_marked, marked_wide, simple_events}
use Rattle.ped_flow.proofs.row_events.entering.Goals as goal

pub returns : goal.returns
returns c =
    let names = names_in c.args.places.now in
    let cs = constants_in c.args.places.now in
    let reads = marked_then names c.in_ok-reads.reads c.mark_expression.new.row c.mark_expression-2.new.row (scalars_in cs (expr_tree c.args.d.now.first)) (scalars_in cs (expr_tree c.args.d.now.last)) c.mark_expression.ensures c.mark_expression-2.ensures in
    if_ok c.of_events.result
    (λ p h n. h names _ _ _ _ (marked_wide names _ _ _ _ c.in_ok-reads.ensures c.len-width.ensures reads) (row_marked names _ _ _ _ c.in_ok-reads.ensures reads) (row_marked names _ _ _ _ c.in_ok-assigned.ensures c.mark_name.ensures)
    (simple_events n (scalars_in cs (expr_tree c.args.d.now.first) ++ scalars_in cs (expr_tree c.args.d.now.last)) (c.args.d.now.variable ∷ []) _ refl))
    c.of_events.ensures
