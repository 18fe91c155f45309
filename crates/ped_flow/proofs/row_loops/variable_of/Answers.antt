use Rattle.std.proofs.Common.{sym}
use Rattle.ped_flow.specs.RowMarks.{names_in}
use Rattle.ped_flow.proofs.EventRows.{row_marked, marked_wide}
use Rattle.ped_flow.proofs.row_loops.variable_of.Goals as goal

pub returns-clause-width : goal.returns-clause-width
returns-clause-width c = sym (marked_wide (names_in c.args.places.now) _ _ _ _ c.in_ok-row.ensures c.len.ensures c.mark_name.ensures)

pub returns-clause-row : goal.returns-clause-row
returns-clause-row c = row_marked (names_in c.args.places.now) _ _ _ _ c.in_ok-row.ensures c.mark_name.ensures
