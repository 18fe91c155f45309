use Rattle.std.proofs.Common.{sym, ◌∙◌}
use Rattle.ped_tree.specs.Views.{expr_tree}
use Rattle.ped_expressions.proofs.Said.{no_form, expr_said, expr_large, expr_none}
use Rattle.ped_expressions.proofs.expressions.read_expression.Goals as goal

pub returns-in-Ok : goal.returns-in-Ok
returns-in-Ok c = expr_large c.args.text.now (expr_tree c.in-Ok.e) c.in-Ok.ensures (sym c.has_large_literal.ensures ∙ c.if-has_large_literal.true)

pub returns-in-Ok-2 : goal.returns-in-Ok-2
returns-in-Ok-2 c = expr_said c.args.text.now (expr_tree c.in-Ok.e) c.in-Ok.ensures (sym c.has_large_literal.ensures ∙ c.if-has_large_literal.false)

pub returns-in-Err-NoForm : goal.returns-in-Err-NoForm
returns-in-Err-NoForm c = expr_none c.args.text.now (no_form expr_tree c.whole.result _ c.in-Err-NoForm.field-0 c.whole.ensures c.in-Err-NoForm.is c.in-Err-NoForm.field-0-is)
