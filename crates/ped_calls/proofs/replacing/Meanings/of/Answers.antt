use Rattle.std.proofs.Common.{rules, ◌≡◌, ℕ, List, Some, None, Result, Ok, Err, IfOk, sym, ap, ◌∙◌}
use Rattle.std.specs.Map.{lookup}
use Rattle.ped_base.specs.contracts.identifiers.NamePartialEq.TheImpl as code
use Rattle.ped_tree.specs.Tree.{ExprTree, Var}
use Rattle.ped_tree.specs.Views.{expr_tree, expr_level}
use Rattle.ped_tree.specs.declared.expressions.Expr.{Expr}
use Rattle.ped_tree.specs.declared.expressions.Expr.TheOpen as open_expr
use Rattle.ped_tree.specs.declared.expressions.Expr.TheVariants as variant
use Rattle.ped_tree.specs.declared.expressions.Expr.TheFolds.{fold-roll-Expr}
use Rattle.ped_links.proofs.Meant.{meant}
use Rattle.ped_calls.proofs.replacing.Meanings.of.Goals as goal

-- a copy stands for the same
copied : {E : Type 0} (result : Result Expr E) (e : Expr) (t : ExprTree) → expr_tree e ≡ t → IfOk result (λ new. expr_tree new ≡ expr_tree e) → IfOk result (λ new. expr_tree new ≡ t)
copied (Ok new) e t h k = k ∙ h
copied (Err x) e t h k = tt

var_tree : (x : List ℕ) → expr_tree (variant.Var x) ≡ Var x
var_tree x = ap expr_tree (sym (variant.rolls-Var x)) ∙ fold-roll-Expr ExprTree expr_level (open_expr.Var x)

pub returns-in-Some : goal.returns-in-Some
returns-in-Some c =
    let found : lookup ((code.eq-value).it c.args.name.now) c.args.self.now.exprs.entries ≡ Some c.in-Some.e.now = search rules in
    copied c.copy.result c.in-Some.e.now _ (meant c.args.self.now.exprs.entries c.args.name.now (Some c.in-Some.e.now) found) c.copy.ensures

pub returns-in-None : goal.returns-in-None
returns-in-None c =
    let found : lookup ((code.eq-value).it c.args.name.now) c.args.self.now.exprs.entries ≡ None = search rules in
    var_tree c.args.name.now ∙ meant c.args.self.now.exprs.entries c.args.name.now None found
