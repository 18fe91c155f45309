use Rattle.std.proofs.Common.{sym, subst}
use Rattle.ped_tree.specs.Grammar.ExpressionForms.{ReadsReference}
use Rattle.ped_tree.specs.Printing.{alone, expr_text}
use Rattle.ped_expressions.proofs.Printed.{reference_prints}
use Rattle.ped_expressions.proofs.laws.printed_reference.Goals as goal

pub returns : goal.returns
returns c = λ text e u r small.
    let back = reference_prints text e r small in
    (λ h. c.one_reference.ensures (expr_text alone e) u e h back, λ h. subst (ReadsReference (expr_text alone e)) (sym h) back)
