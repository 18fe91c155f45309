use Rattle.std.proofs.Common.{sym, ◌∙◌}
use Rattle.ped_tree.specs.Views.{expr_tree}
use Rattle.ped_expressions.proofs.Said.{no_form, reference_said, reference_large, reference_none, reference_no_letter, reference_no_reference}
use Rattle.ped_expressions.proofs.expressions.read_reference.Goals as goal

pub returns-then-not-begins_with_letter : goal.returns-then-not-begins_with_letter
returns-then-not-begins_with_letter c = reference_no_letter c.args.text.now (sym c.begins_with_letter.ensures ∙ c.if-not-begins_with_letter.true)

pub returns-in-Ok : goal.returns-in-Ok
returns-in-Ok c = reference_no_reference c.args.text.now (expr_tree c.in-Ok.e) c.in-Ok.ensures (sym c.is_reference.ensures ∙ c.if-not-is_reference.true)

pub returns-in-Ok-2 : goal.returns-in-Ok-2
returns-in-Ok-2 c = reference_large c.args.text.now (expr_tree c.in-Ok.e) c.in-Ok.ensures (sym c.begins_with_letter.ensures ∙ c.if-not-begins_with_letter.false) (sym c.is_reference.ensures ∙ c.if-not-is_reference.false) (sym c.has_large_literal.ensures ∙ c.if-has_large_literal.true)

pub returns-in-Ok-3 : goal.returns-in-Ok-3
returns-in-Ok-3 c = reference_said c.args.text.now (expr_tree c.in-Ok.e) c.in-Ok.ensures (sym c.begins_with_letter.ensures ∙ c.if-not-begins_with_letter.false) (sym c.is_reference.ensures ∙ c.if-not-is_reference.false) (sym c.has_large_literal.ensures ∙ c.if-has_large_literal.false)

pub returns-in-Err-NoForm : goal.returns-in-Err-NoForm
returns-in-Err-NoForm c = reference_none c.args.text.now (no_form expr_tree c.whole.result _ c.in-Err-NoForm.field-0 c.whole.ensures c.in-Err-NoForm.is c.in-Err-NoForm.field-0-is)
