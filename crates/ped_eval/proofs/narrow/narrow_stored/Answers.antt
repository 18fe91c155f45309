use Rattle.std.proofs.Common.{sym, ap, ◌∙◌}
use Rattle.std.proofs.lemmas.Option.{IfSome_then}
use Rattle.ped_store.specs.Cells.{Cell}
use Rattle.ped_store.specs.Stores.{number_read}
use Rattle.ped_store.specs.Keeping.{memory_of}
use Rattle.ped_eval.proofs.narrow.narrow_stored.Goals as goal

pub returns : goal.returns
returns c =
    let m = memory_of c.args.around.now.store.now in
    IfSome_then c.narrow_result.result c.narrow_result.ensures
    (λ v h. ap (λ (d : Cell). number_read (m.cells d)) (c.has_copy.ensures c.if-has_copy.false) ∙ sym c.get_scalar.ensures ∙ h)
