use Rattle.std.proofs.Common.{sym, ◌∙◌}
use Rattle.ped_store.specs.CellViews.{cell_view}
use Rattle.ped_machine.proofs.Dropping.{lost_copy}
use Rattle.ped_machine.proofs.turns.drop_copy.Goals as goal

pub returns-in-Err : goal.returns-in-Err
returns-in-Err c =
    lost_copy c.args.store.now c.close_copy.new.self (cell_view c.args.cell.now) c.in-Err.field-0 (sym c.is_copy.ensures.copy ∙ c.if-is_copy.true) (sym c.get.ensures ∙ c.in-Err.is) c.close_copy.ensures
