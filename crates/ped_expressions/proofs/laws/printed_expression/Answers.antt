use Rattle.std.proofs.Common.{sym, subst}
use Rattle.ped_tree.specs.Grammar.ExpressionForms.{ReadsExpr}
use Rattle.ped_tree.specs.Printing.{alone, expr_text}
use Rattle.ped_expressions.proofs.Printed.{expr_prints}
use Rattle.ped_expressions.proofs.laws.printed_expression.Goals as goal

pub returns : goal.returns
returns c = λ text e u r small.
    let back = expr_prints text e r small in
    (λ h. c.one_expression.ensures (expr_text alone e) u e h back, λ h. subst (ReadsExpr (expr_text alone e)) (sym h) back)
