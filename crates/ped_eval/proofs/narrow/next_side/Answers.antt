use Rattle.std.proofs.Common.{sym, ap, ◌∙◌}
use Rattle.ped_tree.specs.Views.{expr_tree}
use Rattle.ped_eval.specs.Noting.{seen_at}
use Rattle.ped_eval.specs.Results.{value_at, next_result}
use Rattle.ped_eval.proofs.Notings.{next_noted, fault_noted}
use Rattle.ped_eval.proofs.narrow.next_side.Goals as goal

pub returns-in-Ok-clause-value : goal.returns-in-Ok-clause-value
returns-in-Ok-clause-value c =
    c.whole_value.ensures.value ∙ ap (λ r. next_result r (value_at c.args.around.now (expr_tree c.args.e.now))) (sym c.in-Ok.is)

pub returns-in-Ok-clause-noted : goal.returns-in-Ok-clause-noted
returns-in-Ok-clause-noted c =
    next_noted c.args.notes.now c.whole_value.new.notes c.args.first.now c.in-Ok.field-0 (seen_at c.args.around.now (expr_tree c.args.e.now)) c.in-Ok.is c.whole_value.ensures.noted

pub returns-in-Err-clause-value : goal.returns-in-Err-clause-value
returns-in-Err-clause-value c =
    ap (λ r. next_result r (value_at c.args.around.now (expr_tree c.args.e.now))) (sym c.in-Err.is)

pub returns-in-Err-clause-noted : goal.returns-in-Err-clause-noted
returns-in-Err-clause-noted c =
    fault_noted c.args.notes.now c.args.first.now c.in-Err.fault (seen_at c.args.around.now (expr_tree c.args.e.now)) c.in-Err.is
