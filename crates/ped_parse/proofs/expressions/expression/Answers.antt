use Rattle.std.proofs.Common.{IsTrue, List, ℕ, refl, sym, subst}
use Rattle.ped_tree.specs.Tree.{ExprTree}
use Rattle.ped_tree.specs.Views.{expr_tree}
use Rattle.ped_tree.specs.Grammar.ExpressionForms.{ReadsExpr}
use Rattle.ped_tree.specs.Grammar.Literals.{has_large_literal}
use Rattle.ped_tree.specs.Grammar.Refusal.{Limit}
use Rattle.ped_statements.specs.ped_expressions.specs.Readings.{Says}
use Rattle.ped_parse.specs.Refusals.{IsRefusalOfExpression, RefusesExpression, large_literal}
use Rattle.ped_parse.proofs.expressions.expression.Goals as goal

-- an expression with a large literal is refused for its limit
is_large : (text : List ℕ) → ((e : ExprTree) × ReadsExpr text e × IsTrue (has_large_literal e)) → RefusesExpression text (record { refusal = Limit; line = 0 })
is_large text e = large_literal refl e.0 e.1 e.2

-- src/expressions.rt:22:1
pub returns-in-TooLarge-clause-refused : goal.returns-in-TooLarge-clause-refused
returns-in-TooLarge-clause-refused c =
    subst (λ r. IsRefusalOfExpression c.args.text.now r) (sym c.without_line.ensures)
    (is_large c.args.text.now (subst (λ r. Says (ReadsExpr c.args.text.now) has_large_literal expr_tree r) c.in-TooLarge.is c.in_ok-e.ensures))
