use Rattle.std.proofs.Common.{List, Bool, [], ◌∷◌, subst, sym, inl, inr}
use Rattle.ped_tree.specs.Views.{stmt_trees}
use Rattle.ped_tree.specs.Views.{head_of}
use Rattle.ped_flow.specs.Events.{copied}
use Rattle.ped_flow.specs.RowPlaces.{AreMarked}
use Rattle.ped_flow.specs.RowMarks.{names_in}
use Rattle.ped_flow.proofs.EventRows.{left_row}
use Rattle.ped_flow.proofs.row_loops.left_by.Goals as goal
use Rattle.ped_flow.proofs.row_loops.left_by.Goals.{then-d, else-d}

pub returns-clause-row : goal.returns-clause-row
returns-clause-row c = λ k.
    left_row (names_in c.args.places.now) c.in_ok-row.row c.if-d.row (copied (head_of c.args.d.now) (stmt_trees c.args.d.now.body.items)) c.args.d.now.variable c.args.d.now.parallel
    (elim c.if-d.branch [ then-d w ↦ inl (w.if-d.true, subst (λ (r : List Bool). AreMarked (names_in c.args.places.now) c.in_ok-row.row r (c.args.d.now.variable ∷ [])) (sym w.row-is) w.mark_name.ensures) | else-d w ↦ inr (w.if-d.false, w.row-is) ])
    (c.in_ok-row.ensures.row k)
