use Rattle.std.proofs.Common.{List, ℕ, length, ap, subst, sym, inl, inr, ◌∙◌}
use Rattle.ped_tree.specs.Views.{stmt_trees}
use Rattle.ped_tree.specs.NamesIn.{all_loop_variables}
use Rattle.ped_flow.specs.RowPlaces.{AreMarked}
use Rattle.ped_flow.specs.RowMarks.{names_in}
use Rattle.ped_flow.proofs.RowSummaries.{union_wide}
use Rattle.ped_flow.proofs.EventRows.{marked_wide, copies_row}
use Rattle.ped_flow.proofs.row_loops.copies.Goals as goal
use Rattle.ped_flow.proofs.row_loops.copies.Goals.{then-d, else-d}

pub returns-clause-width : goal.returns-clause-width
returns-clause-width c =
    let wide = sym (marked_wide (names_in c.args.places.now) _ _ _ _ c.in_ok-row.ensures c.len.ensures c.mark_names.ensures) in
    elim c.if-d.branch [ then-d w ↦ union_wide _ _ _ _ (w.row-is ∙ w.or_into.ensures) wide c.requires | else-d w ↦ ap length w.row-is ∙ wide ]

pub returns-clause-row : goal.returns-clause-row
returns-clause-row c =
    let marks = subst (λ (ns : List (List ℕ)). AreMarked (names_in c.args.places.now) c.in_ok-row.row c.mark_names.new.row ns) c.as_slice.ensures c.mark_names.ensures in
    let wide = sym (marked_wide (names_in c.args.places.now) _ _ _ _ c.in_ok-row.ensures c.len.ensures c.mark_names.ensures) in
    copies_row (names_in c.args.places.now) _ _ _ c.args.indices.now c.if-d.row c.args.d.now.private (all_loop_variables (stmt_trees c.args.d.now.body.items)) c.args.d.now.parallel c.in_ok-row.ensures marks (wide ∙ sym c.requires)
    (elim c.if-d.branch [ then-d w ↦ inl (w.if-d.true, w.row-is ∙ w.or_into.ensures) | else-d w ↦ inr (w.if-d.false, w.row-is) ])
