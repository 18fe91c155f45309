use Rattle.std.proofs.Common.{◌≡◌, ℤ, List, [], ◌∷◌, length, map, sym, ap, ◌∙◌, Ok, arith, rules, to_z, of_z}
use Rattle.std.specs.Int.{w64, w128}
use Rattle.std.specs.Int.RustNames.{FitsSigned}
use Rattle.std.proofs.lemmas.Int.{to_z-of_z}
use Rattle.std.proofs.lemmas.Option.{IfSome_then}
use Rattle.ped_base.specs.Arithmetic.Arithmetic.{sum_of, difference_of, product_of}
use Rattle.ped_tree.specs.declared.expressions.Expr.{Expr}
use Rattle.ped_tree.specs.Tree.{Element}
use Rattle.ped_tree.specs.Views.{expr_tree, pack_exprs}
use Rattle.ped_store.specs.Cells as cells
use Rattle.ped_store.specs.Keeping.{memory_of}
use Rattle.ped_store.specs.Memories.{got}
use Rattle.ped_eval.specs.Values.{is_rank}
use Rattle.ped_eval.specs.Results.{value_at}
use Rattle.ped_eval.proofs.Levels.{tree-Int, tree-Var, tree-Element, tree-Add, tree-Sub, tree-Mul}
use Rattle.ped_eval.proofs.Steps.{int_at, seen_as, sum_known, difference_known, product_known, element_known, values_one_known, values_two_known}
use Rattle.ped_eval.proofs.narrow.+narrow_value.Goals as goal

pub narrow_value-returns-in-Int-clause-value : goal.narrow_value-returns-in-Int-clause-value
narrow_value-returns-in-Int-clause-value t c =
    let fits : FitsSigned w64 c.from.result = search rules in
    sym (seen_as c.args.around.now c.args.e.now _ _ c.in-Int.is (tree-Int c.in-Int.value)) ∙ int_at c.args.around.now c.in-Int.value ∙ ap Ok (sym (to_z-of_z w64 c.from.result fits ∙ c.from.ensures))

pub narrow_value-returns-in-Var-clause-value : goal.narrow_value-returns-in-Var-clause-value
narrow_value-returns-in-Var-clause-value t c =
    IfSome_then c.narrow_scalar.result c.narrow_scalar.ensures (λ v h. sym (seen_as c.args.around.now c.args.e.now _ _ c.in-Var.is (tree-Var c.in-Var.name)) ∙ h)

pub narrow_value-returns-in-Element-clause-value : goal.narrow_value-returns-in-Element-clause-value
narrow_value-returns-in-Element-clause-value t c =
    IfSome_then c.narrow_element.result c.narrow_element.ensures.value
    (λ v h. sym (ap (λ (es : List Expr). value_at c.args.around.now (Element c.in-Element.name (pack_exprs (map expr_tree es)))) c.deref.ensures.value ∙ seen_as c.args.around.now c.args.e.now _ _ c.in-Element.is (tree-Element c.in-Element.name c.in-Element.indices)) ∙ h)

pub narrow_value-returns-in-Add-clause-value : goal.narrow_value-returns-in-Add-clause-value
narrow_value-returns-in-Add-clause-value t c =
    let a = sym (ap (λ (a : Expr). value_at c.args.around.now (expr_tree a)) c.deref-in-Add.ensures) ∙ c.in_ok-left-in-Add.ensures.value in
    let b = sym (ap (λ (a : Expr). value_at c.args.around.now (expr_tree a)) c.deref-in-Add-2.ensures) ∙ c.in_ok-right-in-Add.ensures.value in
    let u : ℤ = c.in_ok-left-in-Add.left in
    let w : ℤ = c.in_ok-right-in-Add.right in
    let one_fits : FitsSigned w64 u = search rules in
    let other_fits : FitsSigned w64 w = search rules in
    let passed : sum_of (to_z w64 (of_z w64 u)) (to_z w64 (of_z w64 w)) ≡ sum_of u w = λ i. sum_of (to_z-of_z w64 u one_fits i) (to_z-of_z w64 w other_fits i) in
    IfSome_then c.narrow_sum.result c.narrow_sum.ensures
    (λ v h. sym (seen_as c.args.around.now c.args.e.now _ _ c.in-Add.is (tree-Add c.in-Add.a c.in-Add.b)) ∙ sum_known c.args.around.now (expr_tree c.in-Add.a.value) (expr_tree c.in-Add.b.value) u w v a b (sym passed ∙ h))

pub narrow_value-returns-in-Sub-clause-value : goal.narrow_value-returns-in-Sub-clause-value
narrow_value-returns-in-Sub-clause-value t c =
    let a = sym (ap (λ (a : Expr). value_at c.args.around.now (expr_tree a)) c.deref-in-Sub.ensures) ∙ c.in_ok-left-in-Sub.ensures.value in
    let b = sym (ap (λ (a : Expr). value_at c.args.around.now (expr_tree a)) c.deref-in-Sub-2.ensures) ∙ c.in_ok-right-in-Sub.ensures.value in
    let u : ℤ = c.in_ok-left-in-Sub.left in
    let w : ℤ = c.in_ok-right-in-Sub.right in
    let one_fits : FitsSigned w64 u = search rules in
    let other_fits : FitsSigned w64 w = search rules in
    let passed : difference_of (to_z w64 (of_z w64 u)) (to_z w64 (of_z w64 w)) ≡ difference_of u w = λ i. difference_of (to_z-of_z w64 u one_fits i) (to_z-of_z w64 w other_fits i) in
    IfSome_then c.narrow_difference.result c.narrow_difference.ensures
    (λ v h. sym (seen_as c.args.around.now c.args.e.now _ _ c.in-Sub.is (tree-Sub c.in-Sub.a c.in-Sub.b)) ∙ difference_known c.args.around.now (expr_tree c.in-Sub.a.value) (expr_tree c.in-Sub.b.value) u w v a b (sym passed ∙ h))

pub narrow_value-returns-in-Mul-clause-value : goal.narrow_value-returns-in-Mul-clause-value
narrow_value-returns-in-Mul-clause-value t c =
    let a = sym (ap (λ (a : Expr). value_at c.args.around.now (expr_tree a)) c.deref-in-Mul.ensures) ∙ c.in_ok-left-in-Mul.ensures.value in
    let b = sym (ap (λ (a : Expr). value_at c.args.around.now (expr_tree a)) c.deref-in-Mul-2.ensures) ∙ c.in_ok-right-in-Mul.ensures.value in
    let u : ℤ = c.in_ok-left-in-Mul.left in
    let w : ℤ = c.in_ok-right-in-Mul.right in
    let one_fits : FitsSigned w64 u = search rules in
    let other_fits : FitsSigned w64 w = search rules in
    let passed : product_of (to_z w64 (of_z w64 u)) (to_z w64 (of_z w64 w)) ≡ product_of u w = λ i. product_of (to_z-of_z w64 u one_fits i) (to_z-of_z w64 w other_fits i) in
    IfSome_then c.narrow_product.result c.narrow_product.ensures
    (λ v h. sym (seen_as c.args.around.now c.args.e.now _ _ c.in-Mul.is (tree-Mul c.in-Mul.a c.in-Mul.b)) ∙ product_known c.args.around.now (expr_tree c.in-Mul.a.value) (expr_tree c.in-Mul.b.value) u w v a b (sym passed ∙ h))

pub narrow_operand-returns-in-Int-clause-value : goal.narrow_operand-returns-in-Int-clause-value
narrow_operand-returns-in-Int-clause-value t c =
    let fits : FitsSigned w64 c.from.result = search rules in
    sym (seen_as c.args.around.now c.args.e.now _ _ c.in-Int.is (tree-Int c.in-Int.value)) ∙ int_at c.args.around.now c.in-Int.value ∙ ap Ok (sym (to_z-of_z w64 c.from.result fits ∙ c.from.ensures))

pub narrow_operand-returns-in-Var-clause-value : goal.narrow_operand-returns-in-Var-clause-value
narrow_operand-returns-in-Var-clause-value t c =
    IfSome_then c.narrow_scalar.result c.narrow_scalar.ensures (λ v h. sym (seen_as c.args.around.now c.args.e.now _ _ c.in-Var.is (tree-Var c.in-Var.name)) ∙ h)

pub narrow_element-returns-clause-value : goal.narrow_element-returns-clause-value
narrow_element-returns-clause-value t c =
    let around = c.args.around.now in
    let es = c.args.indices.now in
    let u : ℤ = c.in_ok-place.place in
    let fits : FitsSigned w128 c.from.result = search rules in
    let narrow_fits : FitsSigned w64 u = search rules in
    let js : List ℤ = u ∷ [] in
    let one : length es ≡ 1 = omega arith in
    let known = element_known around c.args.name.now es js (values_one_known around es c.index-item.result u one c.index-item.is c.in_ok-place.ensures.value) (ap is_rank one) in
    let read = c.get_element.ensures ∙ ap (λ (v : ℤ). got (memory_of around.store.now) (cells.Element c.args.name.now (v ∷ []))) (to_z-of_z w128 c.from.result fits ∙ c.from.ensures ∙ to_z-of_z w64 u narrow_fits) in
    IfSome_then c.narrow_result.result c.narrow_result.ensures (λ v h. known ∙ sym read ∙ h)

pub narrow_by_more-returns-clause-value : goal.narrow_by_more-returns-clause-value
narrow_by_more-returns-clause-value t c =
    let around = c.args.around.now in
    let es = c.args.indices.now in
    let u : ℤ = c.in_ok-row.row in
    let w : ℤ = c.in_ok-column.column in
    let one_fits : FitsSigned w128 c.from.result = search rules in
    let other_fits : FitsSigned w128 c.from-2.result = search rules in
    let row_fits : FitsSigned w64 u = search rules in
    let column_fits : FitsSigned w64 w = search rules in
    let js : List ℤ = u ∷ w ∷ [] in
    let two : length es ≡ 2 = omega arith in
    let known = element_known around c.args.name.now es js (values_two_known around es c.first-item.result c.second-item.result u w two c.first-item.is c.second-item.is c.in_ok-row.ensures.value c.in_ok-column.ensures.value) (ap is_rank two) in
    let read = c.get_element.ensures ∙ (λ i. got (memory_of around.store.now) (cells.Element c.args.name.now ((to_z-of_z w128 c.from.result one_fits ∙ c.from.ensures ∙ to_z-of_z w64 u row_fits) i ∷ (to_z-of_z w128 c.from-2.result other_fits ∙ c.from-2.ensures ∙ to_z-of_z w64 w column_fits) i ∷ []))) in
    IfSome_then c.narrow_result.result c.narrow_result.ensures (λ v h. known ∙ sym read ∙ h)
