use Rattle.std.proofs.Common.{List, ◌≡◌, ap, ◌∙◌}
use Rattle.std.proofs.lemmas.Result.{IfOk-at_ok, IfOk-weaker}
use Rattle.ped_tree.specs.Views.{expr_tree, stmt_trees}
use Rattle.ped_tree.specs.declared.expressions.Expr.{Expr}
use Rattle.ped_tree.specs.declared.statements.Stmt.{Stmt}
use Rattle.ped_rules.specs.ped_steps.specs.Replacing.{alone}
use Rattle.ped_loops.specs.CodeInterchanging.{each_around}
use Rattle.ped_loops.specs.CodeShapes.{outer_of, inner_of}
use Rattle.ped_loops.specs.Shapes.{new_inner, new_outer}
use Rattle.ped_loops.proofs.ShapedCode.{exchanged_by}
use Rattle.ped_loops.proofs.shapes.exchanged.Goals as goal

pub returns : goal.returns
returns c =
    let p = c.args.pair.now in
    let inside = stmt_trees p.inner.now.body.items in
    let body = stmt_trees p.outer.now.body.items in
    let around = c.in_ok-body.ensures ∙ ap (λ (ss : List Stmt). each_around (new_inner (outer_of p) (inner_of p)) inside (stmt_trees ss)) c.deref.ensures.value in
    let first_is = ap expr_tree c.in_ok-first-2.ensures.first ∙ c.in_ok-first.ensures in
    let last_is = IfOk-at_ok (λ (e : Expr). expr_tree e ≡ (new_outer (outer_of p) (inner_of p)).last) c.in_ok-first-2.ensures.second c.outer_last.ensures in
    let made = exchanged_by (inner_of p) inside (outer_of p) body c.requires.inner (stmt_trees c.in_ok-body.body.items) around (expr_tree c.in_ok-first-2.first) (expr_tree c.in_ok-first-2.last) first_is last_is in
    IfOk-weaker c.with_bounds.result _ _ (λ d h. ap alone h ∙ made) c.with_bounds.ensures
