-- A copy is forgotten, where the cell is one.
use Rattle.ped_store.specs.CellViews.{cell_view}
use Rattle.ped_store.specs.Keeping.{memory_of}
use Rattle.ped_machine.proofs.Forgetting.{forgotten_copy, nothing_forgotten}
use Rattle.ped_machine.proofs.turns.forget_copy.Goals as goal

pub returns-then-is_copy : goal.returns-then-is_copy
returns-then-is_copy c = forgotten_copy c.args.store.now c.close_copy.new.self (cell_view c.args.cell.now) c.close_copy.ensures

pub returns-else-is_copy : goal.returns-else-is_copy
returns-else-is_copy c = nothing_forgotten (cell_view c.args.cell.now) (memory_of c.args.store.now)
