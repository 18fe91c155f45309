use Rattle.std.proofs.Common.{◌≡◌, List, map, refl, sym, ap, subst, ◌∙◌, Err, IfOk, IfErr}
use Rattle.ped_tree.specs.declared.expressions.Expr.{Expr}
use Rattle.ped_tree.specs.Tree.{ExprTree, Element}
use Rattle.ped_tree.specs.Views.{expr_tree, pack_exprs}
use Rattle.ped_store.specs.CellViews.{cell_view}
use Rattle.ped_store.specs.Keeping.{memory_of}
use Rattle.ped_eval.specs.Results.{target_at}
use Rattle.ped_eval.specs.Noting.{target_seen_at, all_seen_at}
use Rattle.ped_eval.specs.Targets.{bounded, IsNamedBy}
use Rattle.ped_eval.proofs.Levels.{tree-Var, tree-Element, other_tree}
use Rattle.ped_eval.proofs.Steps.{bounded_scalar, target_other}
use Rattle.ped_eval.proofs.Seeing.{element_target_seen, operation_plain}
use Rattle.ped_eval.proofs.Notings.{noted_as, plain_target_noted}
use Rattle.ped_eval.proofs.evaluation.target_cell.Goals as goal

pub returns-in-Var-clause-named : goal.returns-in-Var-clause-named
returns-in-Var-clause-named c =
    subst (λ (t : ExprTree). IsNamedBy c.args.around.now.scope.now t (cell_view c.cell.result)) (sym (ap expr_tree c.in-Var.is ∙ tree-Var c.in-Var.name)) c.cell.ensures.view

pub returns-in-Var-clause-target : goal.returns-in-Var-clause-target
unfolding target_at
returns-in-Var-clause-target c =
    let m = memory_of c.args.around.now.store.now in
    ap (target_at c.args.around.now) (ap expr_tree c.in-Var.is ∙ tree-Var c.in-Var.name)
    ∙ sym (ap (bounded m) c.cell.ensures.view ∙ bounded_scalar m c.args.around.now.scope.now c.in-Var.name)

pub returns-in-Var-clause-noted : goal.returns-in-Var-clause-noted
returns-in-Var-clause-noted c = plain_target_noted c.args.around.now c.args.notes.now c.args.e.now _ (ap expr_tree c.in-Var.is ∙ tree-Var _) tt

pub returns-in-Element-clause-named : goal.returns-in-Element-clause-named
returns-in-Element-clause-named c =
    let e = ap (λ (es : List Expr). Element c.in-Element.name (pack_exprs (map expr_tree es))) c.deref.ensures.value ∙ sym (ap expr_tree c.in-Element.is ∙ tree-Element c.in-Element.name c.in-Element.subscripts) in
    subst (λ (t : ExprTree). IfOk c.element_cell.result (λ d. IsNamedBy c.args.around.now.scope.now t (cell_view d))) e c.element_cell.ensures.named

pub returns-in-Element-clause-target : goal.returns-in-Element-clause-target
returns-in-Element-clause-target c =
    let e = ap (λ (es : List Expr). Element c.in-Element.name (pack_exprs (map expr_tree es))) c.deref.ensures.value ∙ sym (ap expr_tree c.in-Element.is ∙ tree-Element c.in-Element.name c.in-Element.subscripts) in
    subst (λ (t : ExprTree). IfOk c.element_cell.result (λ d. target_at c.args.around.now t ≡ bounded (memory_of c.args.around.now.store.now) (cell_view d))) e c.element_cell.ensures.target

pub returns-in-Element-clause-err : goal.returns-in-Element-clause-err
returns-in-Element-clause-err c =
    let e = ap (λ (es : List Expr). Element c.in-Element.name (pack_exprs (map expr_tree es))) c.deref.ensures.value ∙ sym (ap expr_tree c.in-Element.is ∙ tree-Element c.in-Element.name c.in-Element.subscripts) in
    subst (λ (t : ExprTree). IfErr c.element_cell.result (λ n. target_at c.args.around.now t ≡ Err n)) e c.element_cell.ensures.err

pub returns-in-Element-clause-noted : goal.returns-in-Element-clause-noted
returns-in-Element-clause-noted c =
    noted_as c.args.notes.now c.element_cell.new.notes _ _
    (sym (ap (target_seen_at c.args.around.now) (ap expr_tree c.in-Element.is ∙ tree-Element _ c.in-Element.subscripts) ∙ element_target_seen c.args.around.now _ c.in-Element.subscripts.items ∙ ap (all_seen_at c.args.around.now) (sym c.deref.ensures.value)))
    c.element_cell.ensures.noted

pub returns-in-Int-clause-err : goal.returns-in-Int-clause-err
returns-in-Int-clause-err c = sym (target_other c.args.around.now (expr_tree c.args.e.now) (other_tree c.args.e.now c.in-Int.is))

pub returns-in-Int-clause-noted : goal.returns-in-Int-clause-noted
returns-in-Int-clause-noted c = plain_target_noted c.args.around.now c.args.notes.now c.args.e.now (expr_tree c.args.e.now) refl (operation_plain (expr_tree c.args.e.now) (other_tree c.args.e.now c.in-Int.is))
