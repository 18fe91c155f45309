use Rattle.std.proofs.Common.{◌≡◌, ap, ◌∙◌}
use Rattle.std.proofs.lemmas.Result.{IfOk-at_ok, IfOk-weaker}
use Rattle.ped_tree.specs.Tree.{Do}
use Rattle.ped_tree.specs.Views.{expr_tree, stmt_trees}
use Rattle.ped_tree.specs.declared.expressions.Expr.{Expr}
use Rattle.ped_loops.specs.CodeShapes.{outer_of, inner_of}
use Rattle.ped_loops.specs.Shapes.{new_inner}
use Rattle.ped_loops.proofs.shapes.inside.Goals as goal

pub returns : goal.returns
returns c =
    let p = c.args.pair.now in
    let body_is = c.in_ok-body.ensures ∙ ap stmt_trees c.deref.ensures.value in
    let first_is = ap expr_tree c.in_ok-first-2.ensures.first ∙ c.in_ok-first.ensures in
    let last_is = IfOk-at_ok (λ (e : Expr). expr_tree e ≡ (new_inner (outer_of p) (inner_of p)).last) c.in_ok-first-2.ensures.second c.inner_last.ensures in
    IfOk-weaker c.with_bounds.result _ _ (λ d h. h ∙ (λ i. Do (record (outer_of p) { first = first_is i; last = last_is i }) (body_is i))) c.with_bounds.ensures
