use Rattle.std.proofs.Common.{sym, ap, ◌∙◌}
use Rattle.std.proofs.lemmas.Option.{IfSome_then}
use Rattle.ped_store.specs.Memories.{got}
use Rattle.ped_store.specs.Keeping.{memory_of}
use Rattle.ped_eval.proofs.Steps.{got_scalar}
use Rattle.ped_eval.proofs.narrow.narrow_copy.Goals as goal

pub returns : goal.returns
returns c =
    let m = memory_of c.args.around.now.store.now in
    IfSome_then c.narrow_result.result c.narrow_result.ensures
    (λ v h. sym (got_scalar m c.args.around.now.scope.now c.args.name.now) ∙ sym (ap (got m) c.cell.ensures.view) ∙ sym c.get.ensures ∙ h)
