use Rattle.std.proofs.Common.{sym, ap, ◌∙◌, subst}
use Rattle.std.specs.Prelude.{◌↔◌, IsTrue}
use Rattle.ped_tree.specs.Tree.{ExprTree}
use Rattle.ped_tree.specs.Views.{expr_tree}
use Rattle.ped_tree.specs.declared.expressions.Expr.{Expr}
use Rattle.ped_loop_runs.specs.ped_flow.specs.PlainBounds.{setting_round, IsConstant, IsPlainlyBuilt}
use Rattle.ped_rules.specs.CodePlain.{tree_at, values_at}
use Rattle.ped_rules.proofs.HeadLaws.PlainAnswers.{of_either, of_both}
use Rattle.ped_loop_runs.specs.ped_flow.proofs.ScalarSteps.{expr_tree-Add, expr_tree-Sub, expr_tree-Mul}
use Rattle.ped_rules.proofs.bounds.+plainness.Goals as goal

pub is_built-returns-in-Add : goal.is_built-returns-in-Add
is_built-returns-in-Add t c =
    let p = c.args.place.now in
    let s = setting_round (values_at p) (tree_at p) p.number in
    let tree = ap expr_tree c.in-Add.is ∙ expr_tree-Add c.in-Add.a c.in-Add.b in
    let left = subst (λ (x : Expr). IsTrue c.is_built-in-Add.result ↔ IsPlainlyBuilt (values_at p) (tree_at p) p.number (expr_tree x)) c.deref-in-Add.ensures c.is_built-in-Add.ensures in
    let right = subst (λ (x : Expr). IsTrue c.is_built-in-Add-2.result ↔ IsPlainlyBuilt (values_at p) (tree_at p) p.number (expr_tree x)) c.deref-in-Add-2.ensures c.is_built-in-Add-2.ensures in
    let whole = subst (λ (x : ExprTree). IsTrue c.is_constant-in-Add.result ↔ IsConstant s x) tree c.is_constant-in-Add.ensures in
    subst (λ (x : ExprTree). IsTrue c.either-in-Add.result ↔ IsPlainlyBuilt (values_at p) (tree_at p) p.number x) (sym tree)
    (of_either c.is_constant-in-Add.result c.both-parts.result c.either-in-Add.result c.either-in-Add.ensures whole
    (of_both c.is_built-in-Add.result c.is_built-in-Add-2.result c.both-parts.result c.both-parts.ensures left right))

pub is_built-returns-in-Sub : goal.is_built-returns-in-Sub
is_built-returns-in-Sub t c =
    let p = c.args.place.now in
    let s = setting_round (values_at p) (tree_at p) p.number in
    let tree = ap expr_tree c.in-Sub.is ∙ expr_tree-Sub c.in-Sub.a c.in-Sub.b in
    let left = subst (λ (x : Expr). IsTrue c.is_built-in-Sub.result ↔ IsPlainlyBuilt (values_at p) (tree_at p) p.number (expr_tree x)) c.deref-in-Sub.ensures c.is_built-in-Sub.ensures in
    let right = subst (λ (x : Expr). IsTrue c.is_built-in-Sub-2.result ↔ IsPlainlyBuilt (values_at p) (tree_at p) p.number (expr_tree x)) c.deref-in-Sub-2.ensures c.is_built-in-Sub-2.ensures in
    let whole = subst (λ (x : ExprTree). IsTrue c.is_constant-in-Sub.result ↔ IsConstant s x) tree c.is_constant-in-Sub.ensures in
    subst (λ (x : ExprTree). IsTrue c.either-in-Sub.result ↔ IsPlainlyBuilt (values_at p) (tree_at p) p.number x) (sym tree)
    (of_either c.is_constant-in-Sub.result c.both-parts-in-Sub.result c.either-in-Sub.result c.either-in-Sub.ensures whole
    (of_both c.is_built-in-Sub.result c.is_built-in-Sub-2.result c.both-parts-in-Sub.result c.both-parts-in-Sub.ensures left right))

pub is_built-returns-in-Mul : goal.is_built-returns-in-Mul
is_built-returns-in-Mul t c =
    let p = c.args.place.now in
    let s = setting_round (values_at p) (tree_at p) p.number in
    let tree = ap expr_tree c.in-Mul.is ∙ expr_tree-Mul c.in-Mul.a c.in-Mul.b in
    let fixed = subst (λ (x : Expr). IsTrue c.is_constant-in-Mul.result ↔ IsConstant s (expr_tree x)) c.deref-in-Mul.ensures c.is_constant-in-Mul.ensures in
    let built = subst (λ (x : Expr). IsTrue c.is_built-in-Mul.result ↔ IsPlainlyBuilt (values_at p) (tree_at p) p.number (expr_tree x)) c.deref-in-Mul-2.ensures c.is_built-in-Mul.ensures in
    let built_first = subst (λ (x : Expr). IsTrue c.is_built-in-Mul-2.result ↔ IsPlainlyBuilt (values_at p) (tree_at p) p.number (expr_tree x)) c.deref-in-Mul-3.ensures c.is_built-in-Mul-2.ensures in
    let fixed_last = subst (λ (x : Expr). IsTrue c.is_constant-in-Mul-2.result ↔ IsConstant s (expr_tree x)) c.deref-in-Mul-4.ensures c.is_constant-in-Mul-2.ensures in
    let whole = subst (λ (x : ExprTree). IsTrue c.is_constant-in-Mul-3.result ↔ IsConstant s x) tree c.is_constant-in-Mul-3.ensures in
    subst (λ (x : ExprTree). IsTrue c.either-in-Mul-2.result ↔ IsPlainlyBuilt (values_at p) (tree_at p) p.number x) (sym tree)
    (of_either c.is_constant-in-Mul-3.result c.either-in-Mul.result c.either-in-Mul-2.result c.either-in-Mul-2.ensures whole
    (of_either c.both-first.result c.both-second.result c.either-in-Mul.result c.either-in-Mul.ensures
    (of_both c.is_constant-in-Mul.result c.is_built-in-Mul.result c.both-first.result c.both-first.ensures fixed built)
    (of_both c.is_built-in-Mul-2.result c.is_constant-in-Mul-2.result c.both-second.result c.both-second.ensures built_first fixed_last)))
