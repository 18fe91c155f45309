use Rattle.std.proofs.Common.{ap, ◌∙◌}
use Rattle.std.proofs.lemmas.Result.{on_ok_weaker}
use Rattle.ped_store.specs.Cells.{Cell}
use Rattle.ped_store.specs.Memories.{with_copy}
use Rattle.ped_store.specs.Keeping.{memory_of}
use Rattle.ped_eval.proofs.turns.open_one.Goals as goal

pub returns-clause-copy : goal.returns-clause-copy
returns-clause-copy c =
    on_ok_weaker c.open_copy.result (λ p. p ∙ ap (λ (d : Cell). with_copy d (memory_of c.args.state.now.store)) c.cell_at-cell.ensures.view) c.open_copy.ensures.ok
