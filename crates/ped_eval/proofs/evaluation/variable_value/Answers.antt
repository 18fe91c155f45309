use Rattle.std.proofs.Common.{sym, ap, ◌∙◌}
use Rattle.ped_store.specs.Keeping.{memory_of}
use Rattle.ped_eval.specs.Scopes.{cell_of}
use Rattle.ped_eval.specs.Values as Values
use Rattle.ped_eval.proofs.Notings.{variable_told, variable_read}
use Rattle.ped_eval.proofs.evaluation.variable_value.Goals as goal

pub returns-in-Some-clause-noted : goal.returns-in-Some-clause-noted
returns-in-Some-clause-noted c =
    variable_told c.args.notes.now c.note_index.new.notes c.args.around.now.scope.now c.args.name.now (memory_of c.args.around.now.store.now).cells c.in-Some.value (sym c.index.ensures ∙ c.in-Some.is) c.note_index.ensures

pub returns-in-None-clause-value : goal.returns-in-None-clause-value
returns-in-None-clause-value c =
    let m = memory_of c.args.around.now.store.now in
    c.stored_value.ensures.value ∙ sym (ap (λ i. (Values.variable_value i m.cells (cell_of c.args.around.now.scope.now c.args.name.now)).result) (sym c.index.ensures ∙ c.in-None.is))

pub returns-in-None-clause-noted : goal.returns-in-None-clause-noted
returns-in-None-clause-noted c =
    variable_read c.args.notes.now c.stored_value.new.notes c.args.around.now.scope.now c.args.name.now (memory_of c.args.around.now.store.now).cells (sym c.index.ensures ∙ c.in-None.is) c.stored_value.ensures.noted
