use Rattle.std.proofs.Common.{sym, ◌∙◌}
use Rattle.ped_tree.specs.Views.{cond_tree}
use Rattle.ped_expressions.proofs.Said.{no_form, cond_said, cond_large, cond_none}
use Rattle.ped_expressions.proofs.conditions.read_condition.Goals as goal

pub returns-in-Ok : goal.returns-in-Ok
returns-in-Ok c = cond_large c.args.text.now (cond_tree c.in-Ok.c) c.in-Ok.ensures (sym c.cond_has_large_literal.ensures ∙ c.if-cond_has_large_literal.true)

pub returns-in-Ok-2 : goal.returns-in-Ok-2
returns-in-Ok-2 c = cond_said c.args.text.now (cond_tree c.in-Ok.c) c.in-Ok.ensures (sym c.cond_has_large_literal.ensures ∙ c.if-cond_has_large_literal.false)

pub returns-in-Err-NoForm : goal.returns-in-Err-NoForm
returns-in-Err-NoForm c = cond_none c.args.text.now (no_form cond_tree c.whole.result _ c.in-Err-NoForm.field-0 c.whole.ensures c.in-Err-NoForm.is c.in-Err-NoForm.field-0-is)
