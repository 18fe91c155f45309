use Rattle.std.proofs.Common.{true≢false, sym, ap, ◌∙◌}
use Rattle.ped_store.specs.Cells.{Cell}
use Rattle.ped_store.specs.Stores.{number_read}
use Rattle.ped_store.specs.Keeping.{memory_of}
use Rattle.ped_eval.proofs.evaluation.stored_value.Goals as goal

pub returns-clause-value : goal.returns-clause-value
returns-clause-value c =
    let m = memory_of c.args.around.now.store.now in
    c.get_scalar.ensures ∙ ap (λ (d : Cell). number_read (m.cells d)) (sym (c.has_copy.ensures c.if-has_copy.false))

pub returns-clause-noted : goal.returns-clause-noted
returns-clause-noted c = λ k. absurd (true≢false (sym k ∙ c.if-notes.false))
