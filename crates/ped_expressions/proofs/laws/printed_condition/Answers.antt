use Rattle.std.proofs.Common.{sym, subst}
use Rattle.ped_tree.specs.Grammar.ConditionForms.{ReadsCond}
use Rattle.ped_tree.specs.Printing.{whole, cond_text}
use Rattle.ped_expressions.proofs.CondPrinted.{cond_prints}
use Rattle.ped_expressions.proofs.laws.printed_condition.Goals as goal

pub returns : goal.returns
returns c = λ text e u r small.
    let back = cond_prints text e r small in
    (λ h. c.one_condition.ensures (cond_text whole e) u e h back, λ h. subst (ReadsCond (cond_text whole e)) (sym h) back)
