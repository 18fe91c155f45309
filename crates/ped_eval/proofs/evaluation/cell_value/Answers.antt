use Rattle.std.proofs.Common.{ap, subst, ◌∙◌, false}
use Rattle.ped_store.specs.Cells.{Cell}
use Rattle.ped_store.specs.Keeping.{memory_of}
use Rattle.ped_store.specs.Memories.{got}
use Rattle.ped_eval.specs.Noting.{HasReferred}
use Rattle.ped_eval.proofs.Steps.{got_scalar}
use Rattle.ped_eval.proofs.evaluation.cell_value.Goals as goal

pub returns-clause-value : goal.returns-clause-value
returns-clause-value c =
    let m = memory_of c.args.around.now.store.now in
    c.get.ensures ∙ ap (got m) c.cell-cell.ensures.view ∙ got_scalar m c.args.around.now.scope.now c.args.name.now

pub returns-clause-noted : goal.returns-clause-noted
returns-clause-noted c = subst (λ (d : Cell). HasReferred c.args.notes.now d false c.refer.new.self) c.cell-cell.ensures.view c.refer.ensures
