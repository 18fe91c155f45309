use Rattle.std.proofs.Common.{ap, ◌∙◌}
use Rattle.ped_store.specs.Cells.{Cell}
use Rattle.ped_store.specs.Memories.{without_copy}
use Rattle.ped_store.specs.Keeping.{memory_of}
use Rattle.ped_eval.proofs.turns.close_one.Goals as goal

pub returns-clause-copy : goal.returns-clause-copy
returns-clause-copy c = c.close_copy.ensures ∙ ap (λ (d : Cell). without_copy d (memory_of c.args.state.now.store)) c.cell_at-cell.ensures.view
