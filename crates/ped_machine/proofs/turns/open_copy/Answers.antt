use Rattle.std.proofs.Common.{refl, sym, ◌∙◌}
use Rattle.ped_store.specs.CellViews.{cell_view}
use Rattle.ped_store.specs.Keeping.{memory_of}
use Rattle.ped_machine.proofs.Copying.{read_stands, copy_room, copy_stands}
use Rattle.ped_machine.proofs.turns.open_copy.Goals as goal

pub returns-in-Ok-clause-stands : goal.returns-in-Ok-clause-stands
returns-in-Ok-clause-stands c = read_stands c.args.store.now (cell_view c.args.cell.now) _ c.requires.copy (sym c.get.ensures ∙ c.in-Ok.is)

pub returns-in-Err-clause-room : goal.returns-in-Err-clause-room
returns-in-Err-clause-room c =
    copy_room c.open_copy.result c.args.store.now c.open_copy.new.self (cell_view c.args.cell.now) c.in-Err.field-0 c.requires.copy (sym c.get.ensures ∙ c.in-Err.is) c.open_copy.ensures.ok c.open_copy.ensures.err

pub returns-in-Err-clause-stands : goal.returns-in-Err-clause-stands
returns-in-Err-clause-stands c =
    copy_stands c.open_copy.result (memory_of c.args.store.now) (memory_of c.open_copy.new.self) (cell_view c.args.cell.now) (cell_view c.args.cell.now) refl c.requires.copy c.open_copy.ensures.ok
